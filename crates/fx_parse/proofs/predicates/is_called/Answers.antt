use Rattle.std.proofs.Common.{refl, ap, ◌&&◌, Bool}
use Rattle.std.specs.Str.{bytes_eq}
use Rattle.fx_parse.specs.Items.{one_of, is_called, bytes_of}
use Rattle.fx_parse.proofs.sorts.Sorts.{not_name}
use Rattle.fx_parse.proofs.predicates.is_called.Goals as goal

pub returns-in-Name : goal.returns-in-Name
unfolding one_of is_called bytes_of
returns-in-Name c = rw (c.eq.ensures, c.as_str.ensures, c.in-Name.is) refl

pub returns-in_default : goal.returns-in_default
unfolding one_of is_called bytes_of
returns-in_default c = ap (λ (b : Bool). b && bytes_eq (bytes_of c.args.item.now.lexeme) c.args.name.now) (not_name c.args.item.now.lexeme c.in_default.not-Name)
