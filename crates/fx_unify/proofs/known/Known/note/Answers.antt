use Rattle.std.proofs.Common.{◌∙◌, ap}
use Rattle.indexmap.specs.IndexSet.{insert_key}
use Rattle.fx_base.specs.Text.{same_text}
use Rattle.fx_unify.proofs.KnownLaws.{hashed_more}
use Rattle.fx_unify.proofs.known.Known.note.Goals as goal

pub returns : goal.returns
returns c =
    λ ls knows. hashed_more c.args.self.now.labels.keys c.insert.new.self.keys ls c.args.label.now (c.in_ok-insert.ensures.keys ∙ ap (insert_key same_text c.args.self.now.labels.keys) c.in_ok-copy.ensures) knows
