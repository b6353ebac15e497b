-- Tags in the order of their keys.
use Rattle.std.specs.Prelude.{ℕ, Bool, true, ◌&&◌, List, [], ◌∷◌}
use Rattle.std.specs.Ordering.{is_lt}
use Rattle.fx_base.specs.Text.{text_cmp}
use Rattle.fx_line.specs.declared.point.Tag.{Tag}

abbrev pub key_of : Tag → List ℕ
key_of t = t.key

-- the tag's key is below that of the first of the others
abbrev pub comes_before : Tag → List Tag → Bool
comes_before t [] = true
comes_before t (u ∷ rest) = is_lt (text_cmp t.key u.key)

-- each key is below the next
abbrev pub rises : List Tag → Bool
rises [] = true
rises (t ∷ rest) = comes_before t rest && rises rest
