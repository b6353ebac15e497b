-- The pieces of texts, and the patterns, that the reader finds at the front, and no others.
use Rattle.std.proofs.Common.{◌≡◌, ℕ, ◌+◌, ◌<◌, ◌≤◌, ◌==◌, Bool, true, false, [], ◌∷◌, ◌++◌, length, take, drop, None, Some, refl, sym, ap, subst, ◌∙◌, arith, length-append}
use Rattle.std.specs.Prelude.{◌&&◌, not}
use Rattle.std.proofs.lemmas.Bool.{and_parts, eqb-true, not-true}
use Rattle.fx_scan.specs.declared.enclosed.End.{End}
use Rattle.fx_scan.specs.declared.enclosed.Open.TheVariants as inside
use Rattle.fx_scan.specs.declared.group.Group.TheVariants as group
use Rattle.fx_scan.specs.declared.mode.Mode.{Mode}
use Rattle.fx_scan.specs.declared.token.TokenKind.{TokenKind}
use Rattle.fx_scan.specs.declared.token.TokenKind.TheVariants as kind
use Rattle.fx_scan.specs.Forms.{Bytes, begins, is_slash, Form, Piece, IsPattern, Closed, slash, pair, plain}
use Rattle.fx_scan.specs.Tokens.{FormAt}
use Rattle.fx_scan.specs.Readers.{group_by, group_at, end_of, piece_kind, IsTaken, IsFound}
use Rattle.fx_scan.proofs.Runs.{by_bool, taken, dropped, begins_append}
use Rattle.fx_scan.proofs.TextLemmas.{end_at, piece_end, pattern_end, end_back}
use Rattle.fx_scan.proofs.KindLemmas.{by_group, group_of}
use Rattle.fx_scan.proofs.FoundLemmas.{of_group}

-- ---- texts

-- the slice is a piece of the kind
record IsPieceOf (m : Mode) (j : TokenKind) (v : Bytes) : Type 0 where
  pub first : ℕ
  pub rest : Bytes
  pub opens : Bool
  pub text : v ≡ first ∷ rest
  pub piece : Piece opens rest
  pub kind : piece_kind m (first == 34) opens ≡ Some j

piece_of : (m : Mode) (j : TokenKind) (v y : Bytes) → group_of j ≡ group.Texts → FormAt m j v y → IsPieceOf m j v
piece_of m kind.Plain v y g f = record { first = 34; rest = f.form.rest; opens = false; text = f.form.text; piece = f.form.piece; kind = refl }
piece_of m kind.Head v y g f = let out = f.suits in record { first = 34; rest = f.form.rest; opens = true; text = f.form.text; piece = f.form.piece; kind = rw out refl }
piece_of m kind.Mid v y g f = record { first = 125; rest = f.form.rest; opens = true; text = f.form.text; piece = f.form.piece; kind = refl }
piece_of m kind.Tail v y g f = record { first = 125; rest = f.form.rest; opens = false; text = f.form.text; piece = f.form.piece; kind = refl }
piece_of m j v y g f = absurd cc

-- and is read
read_piece : (m : Mode) (j : TokenKind) (w v y : Bytes) → w ≡ v ++ y → (p : IsPieceOf m j v)
    → (end_of (drop 1 w) inside.Text 0 ≡ end_at p.opens (0 + length p.rest)) × (begins (λ b. b == 34) w ≡ (p.first == 34)) × (length v ≡ length p.rest + 1)
read_piece m j w v y e p =
    let split : w ≡ p.first ∷ (p.rest ++ y) = e ∙ ap (λ x. x ++ y) p.text in
    (ap (λ x. end_of (drop 1 x) inside.Text 0) split ∙ piece_end p.piece y 0, ap (begins (λ b. b == 34)) split, omega (arith, ap length p.text))

pub no_end : (m : Mode) (w : Bytes) → group_at m w ≡ group.Texts → end_of (drop 1 w) inside.Text 0 ≡ None → IsFound m w None
no_end m w h none j v y e f =
    let read = (read_piece m j w v y e (piece_of m j v y (of_group m w group.Texts j v y h e f) f)).0 in
    cc

-- the kind of the piece that is read
kind_read : (m : Mode) (w : Bytes) (x : End) → group_at m w ≡ group.Texts → end_of (drop 1 w) inside.Text 0 ≡ Some x
    → (j : TokenKind) (v y : Bytes) → w ≡ v ++ y → FormAt m j v y → (piece_kind m (begins (λ b. b == 34) w) x.opens ≡ Some j) × (length v ≡ x.len + 1)
kind_read m w x h is j v y e f =
    let p = piece_of m j v y (of_group m w group.Texts j v y h e f) f in
    let read = read_piece m j w v y e p in
    let same : end_at p.opens (0 + length p.rest) ≡ Some x = sym read.0 ∙ is in
    let whole : record { opens = p.opens; len = 0 + length p.rest } ≡ x = cc in
    let opens : x.opens ≡ p.opens = sym (ap (λ a. a.opens) whole) in
    let len : 0 + length p.rest ≡ x.len = ap (λ a. a.len) whole in
    (ap (λ q. piece_kind m q x.opens) read.1 ∙ ap (piece_kind m (p.first == 34)) opens ∙ p.kind, omega (arith, read.2))

pub no_piece : (m : Mode) (w : Bytes) (x : End) → group_at m w ≡ group.Texts → end_of (drop 1 w) inside.Text 0 ≡ Some x
    → piece_kind m (begins (λ b. b == 34) w) x.opens ≡ None → IsFound m w None
no_piece m w x h is none j v y e f = let read = (kind_read m w x h is j v y e f).0 in cc

-- what begins a piece that no quote begins
hole_closes : (m : Mode) (b : ℕ) → (b == 34) ≡ false → group_by m b ≡ group.Texts → ((b == 125) && m.in_hole) ≡ true
hole_closes m b no_quote = by_group (λ g. g ≡ group.Texts → ((b == 125) && m.in_hole) ≡ true) m b
    (λ _ e. absurd cc) (λ _ e. absurd cc) (λ yes e. rw no_quote at yes) (λ _ e. absurd cc) (λ e. absurd cc) (λ e. absurd cc)

quoted_form : (m : Mode) (k : TokenKind) (opens : Bool) (u z : Bytes) → piece_kind m true opens ≡ Some k → Piece opens u → FormAt m k (34 ∷ u) z
quoted_form m k false u z h p =
    let is : kind.Plain ≡ k = cc in
    subst (λ x. FormAt m x (34 ∷ u) z) is (record { form = record { rest = u; text = refl; piece = p }; suits = tt })
quoted_form m k true u z h p = by_bool m.in_hole
    (λ open_one. let e = rw open_one at h in absurd cc)
    (λ out.
    let e = rw out at h in
    let is : kind.Head ≡ k = cc in
    subst (λ x. FormAt m x (34 ∷ u) z) is (record { form = record { rest = u; text = refl; piece = p }; suits = out }))

closed_form : (m : Mode) (k : TokenKind) (opens : Bool) (u z : Bytes) → m.in_hole ≡ true → piece_kind m false opens ≡ Some k → Piece opens u → FormAt m k (125 ∷ u) z
closed_form m k true u z hole h p =
    let is : kind.Mid ≡ k = cc in
    subst (λ x. FormAt m x (125 ∷ u) z) is (record { form = record { rest = u; text = refl; piece = p }; suits = hole })
closed_form m k false u z hole h p =
    let is : kind.Tail ≡ k = cc in
    subst (λ x. FormAt m x (125 ∷ u) z) is (record { form = record { rest = u; text = refl; piece = p }; suits = hole })

piece_form : (m : Mode) (b : ℕ) (k : TokenKind) (opens : Bool) (u z : Bytes) → group_by m b ≡ group.Texts → piece_kind m (b == 34) opens ≡ Some k → Piece opens u → FormAt m k (b ∷ u) z
piece_form m b k opens u z g h p = by_bool (b == 34)
    (λ quote. subst (λ x. FormAt m k (x ∷ u) z) (sym (eqb-true b 34 quote)) (quoted_form m k opens u z (ap (λ q. piece_kind m q opens) (sym quote) ∙ h) p))
    (λ other.
    let parts = and_parts (b == 125) m.in_hole (hole_closes m b other g) in
    subst (λ x. FormAt m k (x ∷ u) z) (sym (eqb-true b 125 parts.0)) (closed_form m k opens u z parts.1 (ap (λ q. piece_kind m q opens) (sym other) ∙ h) p))

-- the first bytes as they are cut off
cut : (m : Mode) (k : TokenKind) (w u z : Bytes) (n : ℕ) → w ≡ u ++ z → n ≡ length u → FormAt m k u z → (n ≤ length w) × FormAt m k (take n w) (drop n w)
cut m k w u z n e is f =
    let front : take n w ≡ u = ap (λ i. take i w) is ∙ taken w u z e in
    let back : drop n w ≡ z = ap (λ i. drop i w) is ∙ dropped w u z e in
    (omega (arith, ap length e, length-append u z), subst (λ x. FormAt m k x (drop n w)) (sym front) (subst (FormAt m k u) (sym back) f))

pub piece_taken : (m : Mode) (w : Bytes) (x : End) (k : TokenKind) (n : ℕ) → group_at m w ≡ group.Texts → end_of (drop 1 w) inside.Text 0 ≡ Some x
    → piece_kind m (begins (λ b. b == 34) w) x.opens ≡ Some k → n ≡ x.len + 1 → IsTaken m w k n
piece_taken m [] x k n g is h len = absurd cc
piece_taken m (b ∷ w) x k n g is h len =
    let back = end_back w inside.Text 0 x is in
    let long = back.len in
    let form = cut m k (b ∷ w) (b ∷ back.front) back.rest n (ap (λ r. b ∷ r) back.split) (omega arith) (piece_form m b k x.opens back.front back.rest g h back.form) in
    record { within = form.0; form = form.1; longest = λ j v y e f. omega (arith, (kind_read m (b ∷ w) x g is j v y e f).1) }

-- ---- patterns

pattern_of : (j : TokenKind) (v : Bytes) → group_of j ≡ group.Patterns → Form j v → IsPattern v
pattern_of kind.Pattern v g f = f
pattern_of j v g f = absurd cc

some_closed : {u : Bytes} → Closed u → 0 < length u
some_closed slash = omega arith
some_closed (pair b u h p) = omega arith
some_closed (plain b u h p) = omega arith

read_pattern : (w v y : Bytes) → w ≡ v ++ y → (p : IsPattern v)
    → (end_of (drop 1 w) inside.Pattern 0 ≡ end_at false (0 + length p.rest)) × (begins is_slash (drop 1 w) ≡ false) × (length v ≡ length p.rest + 1)
read_pattern w v y e p =
    let split : drop 1 w ≡ p.rest ++ y = ap (drop 1) (e ∙ ap (λ x. x ++ y) p.text) in
    (ap (λ x. end_of x inside.Pattern 0) split ∙ pattern_end p.closed y 0, ap (begins is_slash) split ∙ begins_append is_slash p.rest y (some_closed p.closed) ∙ p.some, omega (arith, ap length p.text))

pattern_there : (m : Mode) (w : Bytes) → group_at m w ≡ group.Patterns → (j : TokenKind) (v y : Bytes) → w ≡ v ++ y → FormAt m j v y
    → (n : ℕ) × (end_of (drop 1 w) inside.Pattern 0 ≡ end_at false n) × (begins is_slash (drop 1 w) ≡ false) × (length v ≡ n + 1)
pattern_there m w h j v y e f =
    let p = pattern_of j v (of_group m w group.Patterns j v y h e f) f.form in
    let read = read_pattern w v y e p in
    (0 + length p.rest, read.0, read.1, omega (arith, read.2))

pub empty_pattern : (m : Mode) (w : Bytes) → group_at m w ≡ group.Patterns → begins is_slash (drop 1 w) ≡ true → IsFound m w None
empty_pattern m w h twice j v y e f = let read = (pattern_there m w h j v y e f).2 in cc

pub open_pattern : (m : Mode) (w : Bytes) → group_at m w ≡ group.Patterns → end_of (drop 1 w) inside.Pattern 0 ≡ None → IsFound m w None
open_pattern m w h none j v y e f = let read = (pattern_there m w h j v y e f).1 in cc

slash_of : (m : Mode) (b : ℕ) → group_by m b ≡ group.Patterns → (is_slash b && not m.divides) ≡ true
slash_of m b = by_group (λ g. g ≡ group.Patterns → (is_slash b && not m.divides) ≡ true) m b
    (λ _ e. absurd cc) (λ _ e. absurd cc) (λ _ e. absurd cc) (λ yes e. yes) (λ e. absurd cc) (λ e. absurd cc)

slash_byte : (b : ℕ) → is_slash b ≡ true → b ≡ 47
unfolding is_slash
slash_byte b h = eqb-true b 47 h

pub pattern_taken : (m : Mode) (w : Bytes) (x : End) (n : ℕ) → group_at m w ≡ group.Patterns → begins is_slash (drop 1 w) ≡ false → end_of (drop 1 w) inside.Pattern 0 ≡ Some x
    → n ≡ x.len + 1 → IsTaken m w kind.Pattern n
pattern_taken m [] x n g once is len = absurd cc
pattern_taken m (b ∷ w) x n g once is len =
    let back = end_back w inside.Pattern 0 x is in
    let long = back.len in
    let parts = and_parts (is_slash b) (not m.divides) (slash_of m b g) in
    let byte = slash_byte b parts.0 in
    let first : begins is_slash back.front ≡ false = sym (begins_append is_slash back.front back.rest (some_closed back.form.1)) ∙ ap (begins is_slash) (sym back.split) ∙ once in
    let form = cut m kind.Pattern (b ∷ w) (b ∷ back.front) back.rest n (ap (λ r. b ∷ r) back.split) (omega arith) (record {
      form = record { rest = back.front; text = ap (λ c. c ∷ back.front) byte; some = first; closed = back.form.1 };
      suits = not-true m.divides parts.1;
    }) in
    record {
      within = form.0;
      form = form.1;
      longest = λ j v y e f.
          let there = pattern_there m (b ∷ w) g j v y e f in
          let same : end_at false there.0 ≡ Some x = sym there.1 ∙ is in
          let whole : record { opens = false; len = there.0 } ≡ x = cc in
          omega (arith, there.3, ap (λ a. a.len) whole);
    }
