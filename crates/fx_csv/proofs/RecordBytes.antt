-- The text of a record in the words of the crate `csv` is that of this crate.
use Rattle.std.proofs.Common.{◌≡◌, ℕ, ◌≤◌, List, [], ◌∷◌, length, refl, arith, append_assoc}
use Rattle.std.specs.List.{flat_map, list_any}
use Rattle.csv.specs.Writing as csv
use Rattle.fx_csv.specs.Records.{comma, doubled, field_bytes, is_special, line_end, record_bytes}
use Rattle.fx_csv.specs.Writers.{crlf}

byte_is : (b : ℕ) → csv.needs_byte crlf b ≡ is_special b
byte_is b = grind arith

special_is : (f : List ℕ) → list_any (csv.needs_byte crlf) f ≡ list_any is_special f
special_is f = λ i. list_any (λ b. byte_is b i) f

escaped_is : (f : List ℕ) → csv.escaped crlf f ≡ flat_map doubled f
unfolding csv.escaped
escaped_is [] = refl
escaped_is (b ∷ rest) = grind (arith, escaped_is rest)

field_is : (f : List ℕ) → csv.field_text crlf f ≡ field_bytes f
field_is f = rw (special_is f, escaped_is f) refl

fields_are : (fs : List (List ℕ)) → csv.fields_text crlf fs ≡ flat_map (λ f. comma ∷ field_bytes f) fs
unfolding csv.fields_text
fields_are [] = refl
fields_are (f ∷ fs) = rw (field_is f, fields_are fs) refl

pub row_text_is : (fs : List (List ℕ)) → 2 ≤ length fs → csv.row_text crlf fs ≡ record_bytes fs
unfolding csv.is_blank
row_text_is [] h = absurd (omega arith)
row_text_is (f ∷ []) h = absurd (omega arith)
row_text_is (f ∷ g ∷ fs) h = rw (field_is f, fields_are (g ∷ fs)) (append_assoc (field_bytes f) _ line_end)
