-- What a token begins with settles its group, and what stands after its first bytes its kind.
use Rattle.std.proofs.Common.{◌≡◌, ℕ, suc, ◌+◌, ◌<◌, ◌==◌, Bool, true, false, [], ◌∷◌, ◌++◌, length, drop, Option, None, Some, refl, sym, ap, ◌∙◌, arith, append-nil}
use Rattle.std.specs.Prelude.{◌&&◌, ◌||◌, not, is_some, if◌then◌else◌}
use Rattle.std.specs.List.{prefix_len, list_all}
use Rattle.std.proofs.lemmas.Bool.{and_parts, or_parts, not-true}
use Rattle.std.proofs.lemmas.Bool.Decides.{nat_tests}
use Rattle.fx_scan.specs.declared.enclosed.End.{End}
use Rattle.fx_scan.specs.declared.enclosed.Open.TheVariants as inside
use Rattle.fx_scan.specs.declared.group.Group.{Group}
use Rattle.fx_scan.specs.declared.group.Group.TheVariants as group
use Rattle.fx_scan.specs.declared.mode.Mode.{Mode}
use Rattle.fx_scan.specs.declared.token.TokenKind.{TokenKind}
use Rattle.fx_scan.specs.declared.token.TokenKind.TheVariants as kind
use Rattle.fx_scan.specs.Forms.{Bytes, begins, is_letter, is_digit, is_name_start, is_name_byte, is_name, is_slash, Form, Piece}
use Rattle.fx_scan.specs.Tables.{word_of}
use Rattle.fx_scan.specs.Tokens.{is_blank, is_brace, FormAt}
use Rattle.fx_scan.specs.Readers.{group_by, group_at, end_of}
use Rattle.fx_scan.proofs.Runs.{by_bool, nothing_left, dropped, run_is, begins_append}
use Rattle.fx_scan.proofs.TableLemmas.{word_is_name, is_mark, symbol_begins, is_other}
use Rattle.fx_scan.proofs.TextLemmas.{piece_end, end_at}
use Rattle.fx_scan.proofs.NumberLemmas.{all_digits, some_digits}
use Rattle.fx_scan.proofs.SpanLemmas.{span_digits}
use Rattle.fx_scan.proofs.TimeLemmas.{time_dash}

-- ---- groups

-- what the byte passes in each group
pub by_group : (P : Group → Type 0) (m : Mode) (b : ℕ) → (is_name_start b ≡ true → P group.Names) → (is_digit b ≡ true → P group.Numbers)
    → (((b == 34) || ((b == 125) && m.in_hole)) ≡ true → P group.Texts) → ((is_slash b && not m.divides) ≡ true → P group.Patterns)
    → P group.Nothing → P group.Symbols → P (group_by m b)
unfolding group_by
by_group P m b names numbers texts patterns nothing symbols = by_bool (is_name_start b)
    (λ yes. rw yes (names yes))
    (λ no_name. by_bool (is_digit b)
    (λ yes. rw (no_name, yes) (numbers yes))
    (λ no_digit. by_bool ((b == 34) || ((b == 125) && m.in_hole))
    (λ yes. rw (no_name, no_digit, yes) (texts yes))
    (λ no_text. by_bool (is_slash b && not m.divides)
    (λ yes. rw (no_name, no_digit, no_text, yes) (patterns yes))
    (λ no_pattern. by_bool ((b == 123) && m.in_hole)
    (λ yes. rw (no_name, no_digit, no_text, no_pattern, yes) nothing)
    (λ other. rw (no_name, no_digit, no_text, no_pattern, other) symbols)))))

pub name_group : (m : Mode) (u z : Bytes) → is_name u ≡ true → group_at m (u ++ z) ≡ group.Names
unfolding group_by
name_group m [] z h = absurd cc
name_group m (b ∷ u) z h = let start = (and_parts (is_name_start b) (list_all is_name_byte u) h).0 in rw start refl

digit_no_start : (b : ℕ) → is_digit b ≡ true → is_name_start b ≡ false
unfolding is_digit is_name_start is_letter
digit_no_start b h = grind (arith, nat_tests, h)

digit_group : (m : Mode) (u z : Bytes) → begins is_digit u ≡ true → group_at m (u ++ z) ≡ group.Numbers
unfolding group_by
digit_group m [] z h = absurd cc
digit_group m (b ∷ u) z h = let other = digit_no_start b h in rw (other, h) refl

quote_group : (m : Mode) (u : Bytes) → group_at m (34 ∷ u) ≡ group.Texts
unfolding group_by is_name_start is_letter is_digit
quote_group m u = refl

brace_group : (m : Mode) (u : Bytes) → m.in_hole ≡ true → group_at m (125 ∷ u) ≡ group.Texts
unfolding group_by is_name_start is_letter is_digit
brace_group m u h = rw h refl

slash_group : (m : Mode) (u : Bytes) → m.divides ≡ false → group_at m (47 ∷ u) ≡ group.Patterns
unfolding group_by is_name_start is_letter is_digit is_slash
slash_group m u h = rw h refl

closing_brace : (b : ℕ) → (b == 125) ≡ true → is_brace b ≡ true
unfolding is_brace
closing_brace b h = by_bool (b == 123) (λ yes. rw yes refl) (λ other. rw (other, h) refl)

opening_brace : (b : ℕ) → (b == 123) ≡ true → is_brace b ≡ true
unfolding is_brace
opening_brace b h = rw h refl

mark_parts : (b : ℕ) → is_mark b ≡ true → (is_name_start b ≡ false) × (is_digit b ≡ false) × ((b == 34) ≡ false)
unfolding is_mark
mark_parts b h =
    let first = or_parts (is_name_start b) (is_digit b || ((b == 34) || is_blank b)) (not-true (is_name_start b || (is_digit b || ((b == 34) || is_blank b))) h) in
    let second = or_parts (is_digit b) ((b == 34) || is_blank b) first.1 in
    (first.0, second.0, (or_parts (b == 34) (is_blank b) second.1).0)

mark_group : (m : Mode) (u z : Bytes) → begins is_mark u ≡ true → (begins is_slash u ≡ true → m.divides ≡ true) → (begins is_brace u ≡ true → m.in_hole ≡ false)
    → group_at m (u ++ z) ≡ group.Symbols
unfolding group_by
mark_group m [] z h slashed braced = absurd cc
mark_group m (b ∷ u) z h slashed braced =
    let parts = mark_parts b h in
    let closes : ((b == 125) && m.in_hole) ≡ false = by_bool (b == 125) (λ yes. let out = braced (closing_brace b yes) in rw (yes, out) refl) (λ other. rw other refl) in
    let opens : ((b == 123) && m.in_hole) ≡ false = by_bool (b == 123) (λ yes. let out = braced (opening_brace b yes) in rw (yes, out) refl) (λ other. rw other refl) in
    let divided : (is_slash b && not m.divides) ≡ false = by_bool (is_slash b) (λ yes. let cuts = slashed yes in rw (yes, cuts) refl) (λ other. rw other refl) in
    rw (parts.0, parts.1, parts.2, closes, divided, opens) refl

abbrev pub group_of : TokenKind → Group
group_of kind.Name = group.Names
group_of kind.Word = group.Names
group_of kind.Int = group.Numbers
group_of kind.Span = group.Numbers
group_of kind.Time = group.Numbers
group_of kind.Plain = group.Texts
group_of kind.Head = group.Texts
group_of kind.Mid = group.Texts
group_of kind.Tail = group.Texts
group_of kind.Pattern = group.Patterns
group_of kind.Symbol = group.Symbols

pub begins_digits : (u : Bytes) → list_all is_digit u ≡ true → 0 < length u → begins is_digit u ≡ true
begins_digits [] h some = absurd (omega arith)
begins_digits (b ∷ u) h some = (and_parts (is_digit b) (list_all is_digit u) h).0

digits_group : (m : Mode) (u d r z : Bytes) → u ≡ d ++ r → list_all is_digit d ≡ true → 0 < length d → group_at m (u ++ z) ≡ group.Numbers
digits_group m u d r z e h some = ap (λ x. group_at m (x ++ z)) e ∙ digit_group m (d ++ r) z (begins_append is_digit d r some ∙ begins_digits d h some)

digit_some : (d : Bytes) → begins is_digit d ≡ true → 0 < length d
digit_some [] h = absurd cc
digit_some (b ∷ d) h = omega arith

-- a token's group is that of its kind
pub grouped : (m : Mode) (k : TokenKind) (u z : Bytes) → FormAt m k u z → group_at m (u ++ z) ≡ group_of k
grouped m kind.Name u z f = name_group m u z f.form.0
grouped m kind.Word u z f = name_group m u z (word_is_name u f.form.0 f.form.1)
grouped m kind.Int u z f = digit_group m u z (begins_digits u (all_digits u f.form.digits) (some_digits u f.form.digits))
grouped m kind.Span u z f =
    let d = span_digits u f.form.0 f.form.1 f.form.2 in
    digits_group m u d.0 d.1 z d.4 d.2 (digit_some d.0 d.3)
grouped m kind.Time u z f =
    let d = time_dash u f.form.0 f.form.1 in
    let long = d.3 in
    digits_group m u d.0 (45 ∷ d.1) z d.4 d.2 (omega arith)
grouped m kind.Plain u z f = ap (λ x. group_at m (x ++ z)) f.form.text ∙ quote_group m (f.form.rest ++ z)
grouped m kind.Head u z f = ap (λ x. group_at m (x ++ z)) f.form.text ∙ quote_group m (f.form.rest ++ z)
grouped m kind.Mid u z f = ap (λ x. group_at m (x ++ z)) f.form.text ∙ brace_group m (f.form.rest ++ z) f.suits
grouped m kind.Tail u z f = ap (λ x. group_at m (x ++ z)) f.form.text ∙ brace_group m (f.form.rest ++ z) f.suits
grouped m kind.Pattern u z f = ap (λ x. group_at m (x ++ z)) f.form.text ∙ slash_group m (f.form.rest ++ z) f.suits
grouped m kind.Symbol u z f = mark_group m u z (symbol_begins u f.form.0 f.form.1) f.suits.0 f.suits.1

-- ---- kinds

abbrev pub number_kind : Bytes → TokenKind
number_kind [] = kind.Int
number_kind (b ∷ r) = if b == 45 then kind.Time else kind.Span

abbrev text_kind : Bool → Option End → TokenKind
text_kind quoted None = kind.Plain
text_kind true (Some e) = if e.opens then kind.Head else kind.Plain
text_kind false (Some e) = if e.opens then kind.Mid else kind.Tail

-- the kind of a slice of a group
abbrev kind_of : Group → Bytes → TokenKind
kind_of group.Names u = if is_some (word_of u) then kind.Word else kind.Name
kind_of group.Numbers u = number_kind (drop (prefix_len is_digit u) u)
kind_of group.Texts u = text_kind (begins (λ b. b == 34) u) (end_of (drop 1 u) inside.Text 0)
kind_of group.Patterns u = kind.Pattern
kind_of group.Symbols u = kind.Symbol
kind_of group.Nothing u = kind.Symbol

all_dropped : (p : ℕ → Bool) (u : Bytes) → list_all p u ≡ true → drop (prefix_len p u) u ≡ []
all_dropped p [] h = refl
all_dropped p (b ∷ u) h =
    let parts = and_parts (p b) (list_all p u) h in
    let more : 1 + prefix_len p u ≡ suc (prefix_len p u) = omega arith in
    rw (parts.0, more) (all_dropped p u parts.1)

pub other_kind : (r : Bytes) → begins is_other r ≡ true → number_kind r ≡ kind.Span
other_kind [] h = absurd cc
other_kind (b ∷ r) h = let dash = (or_parts (is_digit b) (b == 45) (not-true (is_digit b || (b == 45)) h)).1 in rw dash refl

pub other_no_digit : (r : Bytes) → begins is_other r ≡ true → begins is_digit r ≡ false
other_no_digit [] h = absurd cc
other_no_digit (b ∷ r) h = (or_parts (is_digit b) (b == 45) (not-true (is_digit b || (b == 45)) h)).0

-- what stands after the digits at the front
pub after_digits : (w d r : Bytes) → w ≡ d ++ r → list_all is_digit d ≡ true → begins is_digit r ≡ false → (prefix_len is_digit w ≡ length d) × (drop (prefix_len is_digit w) w ≡ r)
after_digits w d r e h stops =
    let len : prefix_len is_digit w ≡ length d = ap (prefix_len is_digit) e ∙ run_is is_digit d r h stops in
    (len, ap (λ n. drop n w) len ∙ dropped w d r e)

pub dash_no_digit : (r : Bytes) → begins is_digit (45 ∷ r) ≡ false
unfolding is_digit
dash_no_digit r = refl

whole_piece : {opens : Bool} (u : Bytes) → Piece opens u → end_of u inside.Text 0 ≡ end_at opens (0 + length u)
whole_piece u p = ap (λ x. end_of x inside.Text 0) (sym (append-nil u)) ∙ piece_end p [] 0

kind_is : (k : TokenKind) (u : Bytes) → Form k u → kind_of (group_of k) u ≡ k
kind_is kind.Name u f = let unreserved = f.1 in rw unreserved refl
kind_is kind.Word u f = let reserved = f.1 in rw reserved refl
kind_is kind.Int u f = ap number_kind (all_dropped is_digit u (all_digits u f.digits))
kind_is kind.Span u f =
    let d = span_digits u f.0 f.1 f.2 in
    ap number_kind (after_digits u d.0 d.1 d.4 d.2 (other_no_digit d.1 d.5)).1 ∙ other_kind d.1 d.5
kind_is kind.Time u f =
    let d = time_dash u f.0 f.1 in
    ap number_kind (after_digits u d.0 (45 ∷ d.1) d.4 d.2 (dash_no_digit d.1)).1
kind_is kind.Plain u f = ap (kind_of group.Texts) f.text ∙ ap (text_kind true) (whole_piece f.rest f.piece)
kind_is kind.Head u f = ap (kind_of group.Texts) f.text ∙ ap (text_kind true) (whole_piece f.rest f.piece)
kind_is kind.Mid u f = ap (kind_of group.Texts) f.text ∙ ap (text_kind false) (whole_piece f.rest f.piece)
kind_is kind.Tail u f = ap (kind_of group.Texts) f.text ∙ ap (text_kind false) (whole_piece f.rest f.piece)
kind_is kind.Pattern u f = refl
kind_is kind.Symbol u f = refl

-- a slice has one kind
pub one_kind : (m : Mode) (j k : TokenKind) (u z : Bytes) → FormAt m j u z → FormAt m k u z → j ≡ k
one_kind m j k u z f g =
    sym (kind_is j u f.form) ∙ ap (λ x. kind_of x u) (sym (grouped m j u z f) ∙ grouped m k u z g) ∙ kind_is k u g.form

-- and some bytes
pub form_some : (k : TokenKind) (u : Bytes) → Form k u → 0 < length u
form_some kind.Name [] f = let e = f.0 in absurd cc
form_some kind.Word [] f = let e = word_is_name [] f.0 f.1 in absurd cc
form_some kind.Int [] f = some_digits [] f.digits
form_some kind.Span [] f = let d = span_digits [] f.0 f.1 f.2 in absurd (nothing_left d.0 d.1 d.4 (digit_some d.0 d.3))
form_some kind.Time [] f = let d = time_dash [] f.0 f.1 in let long = d.3 in absurd (nothing_left d.0 (45 ∷ d.1) d.4 (omega arith))
form_some kind.Plain [] f = let e = f.text in absurd cc
form_some kind.Head [] f = let e = f.text in absurd cc
form_some kind.Mid [] f = let e = f.text in absurd cc
form_some kind.Tail [] f = let e = f.text in absurd cc
form_some kind.Pattern [] f = let e = f.text in absurd cc
form_some kind.Symbol [] f = let e = symbol_begins [] f.0 f.1 in absurd cc
form_some k (b ∷ u) f = omega arith
