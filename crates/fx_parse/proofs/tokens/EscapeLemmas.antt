-- What the reader of escapes gives is what the bytes mean, and is UTF-8 where they are.
use Rattle.std.proofs.Common.{◌≡◌, ℕ, ◌+◌, ◌<◌, ◌==◌, Bool, true, false, [], ◌∷◌, ◌++◌, length, drop, get_or, refl, sym, ap, subst, ◌∙◌, ◌⊎◌, inl, inr, arith}
use Rattle.std.specs.Str.{IsUtf8}
use Rattle.std.proofs.lemmas.Bool.{cases_Bool, eqb-true, ne_eqb}
use Rattle.std.proofs.lemmas.List.{append-nil, append_assoc, get_or_at, take_at, drop_at, length-append}
use Rattle.std.proofs.lemmas.Str.{IsUtf8-append, IsUtf8-take, IsUtf8-drop, IsUtf8-from_ascii, IsCharBoundary-before_ascii, IsCharBoundary-after_ascii}
use Rattle.std.proofs.lemmas.Str.Ascii.{IsAscii-cons, IsAscii-nil}
use Rattle.fx_scan.specs.Forms.{Bytes}
use Rattle.fx_parse.specs.declared.escapes.Quotes.{Quotes}
use Rattle.fx_parse.specs.declared.escapes.Quotes.TheVariants.{Text, Pattern}
use Rattle.fx_parse.specs.Escapes.{is_backslash, in_text, in_pattern, escaped, Means, taken}
use Rattle.fx_parse.specs.Escapes.Means.{nothing, escape, itself}

-- ---- a step of the reader

pub taken_after : (q : Quotes) (after : Bool) (b : ℕ) (rest : Bytes) → after ≡ true → taken q after (b ∷ rest) ≡ escaped q b ++ taken q false rest
taken_after q after b rest e = rw e refl

pub taken_waits : (q : Quotes) (after : Bool) (b : ℕ) (rest : Bytes) → after ≡ false → b ≡ 92 → taken q after (b ∷ rest) ≡ taken q true rest
unfolding is_backslash
taken_waits q after b rest e is = rw (e, is) refl

pub taken_itself : (q : Quotes) (after : Bool) (b : ℕ) (rest : Bytes) → after ≡ false → (b ≡ 92 → ⊥) → taken q after (b ∷ rest) ≡ b ∷ taken q false rest
unfolding is_backslash
taken_itself q after b rest e not = rw (e, ne_eqb b 92 not) refl

-- ---- what bytes mean

pub means_taken : (q : Quotes) (u v : Bytes) → Means q u v → v ≡ taken q false u
unfolding is_backslash
means_taken q _ _ nothing = refl
means_taken q _ _ (escape b u v h) = ap (λ x. escaped q b ++ x) (means_taken q u v h)
means_taken q _ _ (itself b u v e h) = rw e (ap (λ x. b ∷ x) (means_taken q u v h))

-- ---- UTF-8

-- a text may be cut before and after a byte of ASCII
pub ascii_cut : (p : Bytes) (b : ℕ) (r : Bytes) → b < 128 → IsUtf8 (p ++ b ∷ r) → IsUtf8 p × IsUtf8 r
ascii_cut p b r low h =
    let bs : Bytes = p ++ b ∷ r in
    let at : get_or bs (length p) 0 ≡ b = get_or_at p b r 0 (length p) refl in
    let small : get_or bs (length p) 0 < 128 = omega arith in
    let within : length p < length bs = omega (arith, length-append p (b ∷ r)) in
    let before = IsUtf8-take bs (length p) h (IsCharBoundary-before_ascii bs (length p) within small) in
    let after = IsUtf8-drop bs (length p + 1) h (IsCharBoundary-after_ascii bs (length p) h within small) in
    let long : length (p ++ b ∷ []) ≡ length p + 1 = length-append p (b ∷ []) in
    let rest : drop (length p + 1) bs ≡ r = ap (λ x. drop (length p + 1) x) (sym (append_assoc p (b ∷ []) r)) ∙ drop_at (p ++ b ∷ []) r (length p + 1) long in
    let P : Bytes → Type 0 = λ x. IsUtf8 x in
    (subst P (take_at p (b ∷ r) (length p) refl) before, subst P rest after)

one_utf8 : (b : ℕ) → b < 128 → IsUtf8 (b ∷ [])
one_utf8 b low = IsUtf8-from_ascii (b ∷ []) (IsAscii-cons b [] low IsAscii-nil)

pub ascii_joins : (p : Bytes) (b : ℕ) (r : Bytes) → b < 128 → IsUtf8 p → IsUtf8 r → IsUtf8 (p ++ b ∷ r)
ascii_joins p b r low front back = IsUtf8-append p (b ∷ r) front (IsUtf8-append (b ∷ []) r (one_utf8 b low) back)

-- what a backslash and the byte stand for in a text: the byte itself, or one of ASCII for one of ASCII
in_text_is : (b : ℕ) → (in_text b ≡ b) ⊎ ((b < 128) × (in_text b < 128))
unfolding in_text
in_text_is b = elim (cases_Bool (b == 110)) [
  | inl e ↦ rw e (inr (let is = eqb-true b 110 e in omega arith, omega arith))
  | inr e ↦ rw e (elim (cases_Bool (b == 114)) [
    | inl e ↦ rw e (inr (let is = eqb-true b 114 e in omega arith, omega arith))
    | inr e ↦ rw e (elim (cases_Bool (b == 116)) [
      | inl e ↦ rw e (inr (let is = eqb-true b 116 e in omega arith, omega arith))
      | inr e ↦ rw e (inl refl)
    ])
  ])
]

in_pattern_is : (b : ℕ) → ((b ≡ 47) × (in_pattern b ≡ 47 ∷ [])) ⊎ (in_pattern b ≡ 92 ∷ (b ∷ []))
unfolding in_pattern
in_pattern_is b = elim (cases_Bool (b == 47)) [
  | inl e ↦ inl (eqb-true b 47 e, rw e refl)
  | inr e ↦ inr (rw e refl)
]

backslash_is : (b : ℕ) → is_backslash b ≡ true → b ≡ 92
unfolding is_backslash
backslash_is b e = eqb-true b 92 e

joined_two : (p : Bytes) (b : ℕ) (u : Bytes) → (p ++ 92 ∷ (b ∷ [])) ++ u ≡ p ++ 92 ∷ (b ∷ u)
joined_two p b u = append_assoc p (92 ∷ (b ∷ [])) u

joined : (p : Bytes) (b : ℕ) (u : Bytes) → (p ++ b ∷ []) ++ u ≡ p ++ b ∷ u
joined p b u = append_assoc p (b ∷ []) u

-- a backslash and what follows it, where they stand for one byte
one_byte : (q : Quotes) (p : Bytes) (b c : ℕ) (u : Bytes) → b < 128 → c < 128 → IsUtf8 (p ++ 92 ∷ (b ∷ u))
    → (IsUtf8 ([] ++ u) → IsUtf8 (taken q false u)) → IsUtf8 (p ++ c ∷ taken q false u)
one_byte q p b c u low small h more =
    let cut = ascii_cut p 92 (b ∷ u) (omega arith) h in
    ascii_joins p c (taken q false u) small cut.0 (more (ascii_cut [] b u low cut.1).1)

mutual
  taken_utf8 : (q : Quotes) (p u : Bytes) → IsUtf8 (p ++ u) → IsUtf8 (p ++ taken q false u)
  taken_utf8 q p [] h = h
  taken_utf8 q p (b ∷ u) h = elim (cases_Bool (is_backslash b)) [
    | inl e ↦ rw e (waiting_utf8 q p u (let P : ℕ → Type 0 = λ x. IsUtf8 (p ++ x ∷ u) in subst P (backslash_is b e) h))
    | inr e ↦ rw e (let P : Bytes → Type 0 = λ x. IsUtf8 x in subst P (joined p b (taken q false u)) (taken_utf8 q (p ++ b ∷ []) u (subst P (sym (joined p b u)) h)))
  ]

  waiting_utf8 : (q : Quotes) (p u : Bytes) → IsUtf8 (p ++ 92 ∷ u) → IsUtf8 (p ++ taken q true u)
  waiting_utf8 q p [] h = let P : Bytes → Type 0 = λ x. IsUtf8 x in subst P (sym (append-nil p)) (ascii_cut p 92 [] (omega arith) h).0
  waiting_utf8 Text p (b ∷ u) h = elim (in_text_is b) [
    | inl e ↦ rw e (let cut = ascii_cut p 92 (b ∷ u) (omega arith) h in IsUtf8-append p (b ∷ taken Text false u) cut.0 (taken_utf8 Text (b ∷ []) u cut.1))
    | inr low ↦ one_byte Text p b (in_text b) u low.0 low.1 h (λ k. taken_utf8 Text [] u k)
  ]
  waiting_utf8 Pattern p (b ∷ u) h = elim (in_pattern_is b) [
    | inl e ↦ rw e.1 (one_byte Pattern p b 47 u (omega (arith, e.0)) (omega arith) h (λ k. taken_utf8 Pattern [] u k))
    | inr e ↦ rw e (let P : Bytes → Type 0 = λ x. IsUtf8 x in subst P (joined_two p b (taken Pattern false u)) (taken_utf8 Pattern (p ++ 92 ∷ (b ∷ [])) u (subst P (sym (joined_two p b u)) h)))
  ]

pub meant_utf8 : (q : Quotes) (u : Bytes) → IsUtf8 u → IsUtf8 (taken q false u)
meant_utf8 q u h = taken_utf8 q [] u h
