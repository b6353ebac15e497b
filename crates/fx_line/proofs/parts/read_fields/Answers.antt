use Rattle.std.proofs.Common.{◌≡◌, ℕ, ◌∷◌, ◌++◌, [], List, Some, Option, Result, Ok, Err, IfOk, IfSome, IfNone, sym, ap, ◌∙◌, subst}
use Rattle.std.proofs.lemmas.Result.{IfOk-weaker}
use Rattle.fx_line.specs.Line.{Pair}
use Rattle.fx_line.specs.declared.pair.Side.TheVariants as side
use Rattle.fx_line.specs.declared.pair.PairsRead.{PairsRead}
use Rattle.fx_line.specs.Reading.{Fields, HasMore, More, pair_at}
use Rattle.fx_line.proofs.Pairs.{pair_found}
use Rattle.fx_line.proofs.Spelled.{no_first_field, fields_from, no_fields_from}
use Rattle.fx_line.proofs.parts.read_fields.Goals as goal

pub returns-in_default-clause-none : goal.returns-in_default-clause-none
returns-in_default-clause-none c = no_first_field c.args.bytes.now (sym c.in_default.ensures)

pub read_more-requires : goal.read_more-requires
read_more-requires c = (pair_found side.Field c.args.bytes.now c.in-Some.first.pair c.in-Some.first.rest.now (sym c.in-Some.ensures)).ends

pub returns-clause-found : goal.returns-clause-found
returns-clause-found c =
    let first = c.in-Some.first in
    let earlier : c.push.new.self.items ≡ first.pair ∷ [] = c.in_ok-push.ensures.items ∙ ap (λ l. l ++ first.pair ∷ []) c.new-pairs.ensures.items in
    IfOk-weaker c.read_more.result (λ o. IfSome o (λ r. HasMore side.Field first.rest.now c.push.new.self.items r.pairs.items r.rest.now)) (λ o. IfSome o (λ r. Fields c.args.bytes.now r.pairs.items r.rest.now))
    (λ o h. fields_from c.args.bytes.now first.pair first.rest.now c.push.new.self.items o (sym c.in-Some.ensures) earlier h) c.read_more.ensures.found

pub returns-clause-none : goal.returns-clause-none
returns-clause-none c =
    let first = c.in-Some.first in
    IfOk-weaker c.read_more.result (λ o. IfNone o ((ps : List Pair) (r : List ℕ) → More side.Field first.rest.now ps r → ⊥)) (λ o. IfNone o ((fs : List Pair) (r : List ℕ) → Fields c.args.bytes.now fs r → ⊥))
    (λ o h. no_fields_from c.args.bytes.now first.pair first.rest.now o (sym c.in-Some.ensures) h) c.read_more.ensures.none
