use Rattle.std.proofs.Common.{rules, is_lt, Bool}
use Rattle.std.proofs.lemmas.Fn.{always_returns_same}
use Rattle.std.proofs.lemmas.List.Sorted.{ranks_by}
use Rattle.std.specs.Cmp.Lexicographic.{nat_list_cmp_total}
use Rattle.fx_base.specs.Text.{text_cmp}
use Rattle.fx_line.specs.declared.point.Tag.{Tag}
use Rattle.fx_line.specs.Order.{key_of}
use Rattle.fx_line.proofs.order.sort_by_key.Goals as goal

abbrev lower : Tag → Tag → Bool
lower a b = is_lt (text_cmp (key_of a) (key_of b))

pub returns-clause-sorted : goal.returns-clause-sorted
returns-clause-sorted c = c.in_ok-sort_by.ensures.sorted lower (ranks_by nat_list_cmp_total key_of) (always_returns_same _ _ _ (λ a r f k. search rules))

pub returns-clause-stable : goal.returns-clause-stable
returns-clause-stable c = c.sort_by.ensures.stable lower (ranks_by nat_list_cmp_total key_of) (always_returns_same _ _ _ (λ a r f k. search rules))
