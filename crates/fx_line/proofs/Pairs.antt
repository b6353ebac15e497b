-- Tags and fields: the pairs that bytes begin with are cut in one way only.
use Rattle.std.proofs.Common.{◌≡◌, ℕ, ◌+◌, Bool, true, false, not, ◌&&◌, ◌||◌, cond, List, [], ◌∷◌, ◌++◌, ◌<◌, length, take, drop, refl, sym, ap, ◌∙◌, subst, arith, append_assoc, append-nil, length-append, take-append-drop, Option, Some, None}
use Rattle.std.specs.List.{list_all, flat_map}
use Rattle.std.proofs.Math.Seq.{take-append_seam, drop-append_seam}
use Rattle.std.proofs.lemmas.Bool.{and_parts, and_from, or_cases, or_left, or_right, false≢true, ne_eqb, both_ways, eqb-true, not-true}
use Rattle.std.proofs.Common.{⊎_elim, eqb}
use Rattle.std.proofs.lemmas.Option.{none-some}
use Rattle.std.proofs.lemmas.List.Folds.{list_all-append}
use Rattle.fx_base.specs.Text.{same_text}
use Rattle.fx_line.specs.declared.pair.Side.{Side}
use Rattle.fx_line.specs.declared.pair.Side.TheVariants as side
use Rattle.fx_line.specs.declared.word.Word.TheVariants as word
use Rattle.fx_line.specs.Word.{begins, is_word, is_escape, front, back}
use Rattle.fx_line.specs.Value.{is_bare, is_text, is_value, is_integer, is_unsigned, is_float, is_true, is_false}
use Rattle.fx_line.specs.Line.{Pair, is_empty, is_tag, is_field, pair_text, more_text}
use Rattle.fx_line.specs.Reading.{skip, is_divider, ends_pair, is_pair, text_len, bare_len, field_value_len, value_len, with_value, value_behind, pair_at, ends_all, More}
use Rattle.fx_line.proofs.Words.{IsEnd, front_word, back_word, whole_word, front-back}

end_of_divider : (r : List ℕ) → ends_pair r ≡ true → IsEnd word.Name r
end_of_divider [] h = record { ends = refl }
end_of_divider (b ∷ r) h =
    record { ends = ⊎_elim (λ (c : eqb b 44 ≡ true). or_left _ _ c) (λ (c : eqb b 32 ≡ true). or_right _ _ (or_right _ _ c)) (or_cases _ _ h) }

-- texts
same_nil : (r : List ℕ) → same_text r [] ≡ true → r ≡ []
same_nil [] h = refl
same_nil (b ∷ r) h = absurd (false≢true h)

text_len_at : (p : Bool) (v r : List ℕ) → same_text (back word.Quoted p v) (34 ∷ []) ≡ true → text_len p (v ++ r) ≡ length v
text_len_at p [] r h = absurd (false≢true h)
text_len_at p (b ∷ v) r h =
    elim (not p && eqb b 34) as (λ t. same_text (cond t (b ∷ v) (back word.Quoted (is_escape word.Quoted p b) v)) (34 ∷ []) ≡ true → cond t 1 (1 + text_len (is_escape word.Quoted p b) (v ++ r)) ≡ length (b ∷ v)) [
      | true ↦ λ e. omega (arith, ap length (same_nil v (and_parts _ _ e).1))
      | false ↦ λ e. omega (arith, text_len_at (is_escape word.Quoted p b) v r e)
    ] h

-- values that are no texts
divider_is_not_bare : (b : ℕ) → is_divider b ≡ true → is_bare b ≡ false
divider_is_not_bare b h =
    ⊎_elim
    (λ (c : eqb b 44 ≡ true). ap not (or_left _ _ c))
    (λ (c : eqb b 32 ≡ true). ap not (or_right (eqb b 44) _ (or_left _ _ c)))
    (or_cases _ _ h)

bare_len_at : (v r : List ℕ) → list_all is_bare v ≡ true → ends_pair r ≡ true → bare_len (v ++ r) ≡ length v
bare_len_at [] [] h e = refl
bare_len_at [] (b ∷ r) h e = ap (λ t. cond t (1 + bare_len r) 0) (divider_is_not_bare b e)
bare_len_at (b ∷ v) r h e =
    let parts = and_parts _ _ h in
    ap (λ t. cond t (1 + bare_len (v ++ r)) 0) parts.0 ∙ omega (arith, bare_len_at v r parts.1 e)

bare_is_no_quote : (b : ℕ) → is_bare b ≡ true → eqb b 34 ≡ false
bare_is_no_quote b h = ne_eqb b 34 (λ e. false≢true (sym (ap is_bare e) ∙ h))

divider_is_no_quote : (b : ℕ) → is_divider b ≡ true → eqb b 34 ≡ false
divider_is_no_quote b h = ne_eqb b 34 (λ e. false≢true (sym (ap is_divider e) ∙ h))

bare_value_len : (v r : List ℕ) → list_all is_bare v ≡ true → ends_pair r ≡ true → field_value_len (v ++ r) ≡ length v
bare_value_len [] [] h e = refl
bare_value_len [] (b ∷ r) h e = ap (λ t. cond t (1 + text_len false r) (bare_len (b ∷ r))) (divider_is_no_quote b e) ∙ bare_len_at [] (b ∷ r) h e
bare_value_len (b ∷ v) r h e =
    ap (λ t. cond t (1 + text_len false (v ++ r)) (bare_len (b ∷ (v ++ r)))) (bare_is_no_quote b (and_parts _ _ h).0)
    ∙ bare_len_at (b ∷ v) r h e

text_value_len : (v r : List ℕ) → is_text v ≡ true → field_value_len (v ++ r) ≡ length v
text_value_len [] r h = absurd (false≢true h)
text_value_len (b ∷ v) r h =
    let parts = and_parts _ _ h in
    ap (λ t. cond t (1 + text_len false (v ++ r)) (bare_len (b ∷ (v ++ r)))) parts.0
    ∙ omega (arith, text_len_at false v r parts.1)

pub value_len_at : (s : Side) (p : Pair) (r : List ℕ) → is_pair s p ≡ true → ends_pair r ≡ true → value_len s (p.value ++ r) ≡ length p.value
value_len_at side.Tag p r h e =
    ap length (front_word word.Name false p.value r (whole_word word.Name p.value (and_parts _ _ h).1) (end_of_divider r e))
value_len_at side.Field p r h e =
    ⊎_elim
    (λ (text : is_text p.value ≡ true). text_value_len p.value r text)
    (λ (bare : (list_all is_bare p.value && (is_integer p.value || (is_unsigned p.value || (is_float p.value || (is_true p.value || is_false p.value))))) ≡ true).
    bare_value_len p.value r (and_parts _ _ bare).0 e)
    (or_cases _ _ (and_parts _ _ h).1)

pub key_is_word : (s : Side) (p : Pair) → is_pair s p ≡ true → is_word word.Name p.key ≡ true
key_is_word side.Tag p h = (and_parts _ _ h).0
key_is_word side.Field p h = (and_parts _ _ h).0

-- a pair stands first in its text
with_value_at : (s : Side) (p : Pair) (r : List ℕ) → is_pair s p ≡ true → ends_pair r ≡ true → with_value s p.key (p.value ++ r) ≡ Some (p, r)
with_value_at s p r h e =
    let n = value_len_at s p r h e in
    let value : take (value_len s (p.value ++ r)) (p.value ++ r) ≡ p.value = ap (λ m. take m (p.value ++ r)) n ∙ take-append_seam p.value r in
    let rest : drop (value_len s (p.value ++ r)) (p.value ++ r) ≡ r = ap (λ m. drop m (p.value ++ r)) n ∙ drop-append_seam p.value r in
    ap (λ v. cond (is_pair s (record { key = p.key; value = v }) && ends_pair (drop (value_len s (p.value ++ r)) (p.value ++ r))) (Some (record { key = p.key; value = v }, drop (value_len s (p.value ++ r)) (p.value ++ r))) None) value
    ∙ ap (λ q. cond (is_pair s p && ends_pair q) (Some (p, q)) None) rest
    ∙ ap (λ t. cond t (Some (p, r)) None) (and_from _ _ h e)

pub pair_first : (s : Side) (p : Pair) (r : List ℕ) → is_pair s p ≡ true → ends_pair r ≡ true → pair_at s (pair_text p ++ r) ≡ Some (p, r)
pair_first s p r h e =
    let tail : List ℕ = 61 ∷ (p.value ++ r) in
    let joined : pair_text p ++ r ≡ p.key ++ tail = append_assoc p.key (61 ∷ p.value) r in
    let whole = whole_word word.Name p.key (key_is_word s p h) in
    let end : IsEnd word.Name tail = record { ends = refl } in
    ap (pair_at s) joined
    ∙ ap (λ k. value_behind s k (skip 61 (back word.Name false (p.key ++ tail)))) (front_word word.Name false p.key tail whole end)
    ∙ ap (λ b. value_behind s p.key (skip 61 b)) (back_word word.Name false p.key tail whole end)
    ∙ with_value_at s p r h e

-- both parts of an answer
first_of : {A B : Type 0} → A → Option (A × B) → A
first_of d None = d
first_of d (Some x) = x.0

second_of : {A B : Type 0} → B → Option (A × B) → B
second_of d None = d
second_of d (Some x) = x.1

pub same_parts : {A B : Type 0} (x y : A × B) → Some x ≡ Some y → (x.0 ≡ y.0) × (x.1 ≡ y.1)
unfolding first_of second_of
same_parts x y e = (ap (first_of x.0) e, ap (second_of x.1) e)

-- a pair that is read
pub record IsFirst (s : Side) (bytes : List ℕ) (p : Pair) (r : List ℕ) : Type 0 where
  pub spelled : bytes ≡ pair_text p ++ r
  pub kind : is_pair s p ≡ true
  pub ends : ends_pair r ≡ true

record IsValue (s : Side) (key bytes : List ℕ) (p : Pair) (r : List ℕ) : Type 0 where
  key_is : key ≡ p.key
  spelled : bytes ≡ p.value ++ r
  kind : is_pair s p ≡ true
  ends : ends_pair r ≡ true

value_found : (s : Side) (key bytes : List ℕ) (p : Pair) (r : List ℕ) → with_value s key bytes ≡ Some (p, r) → IsValue s key bytes p r
value_found s key bytes p r e =
    let n = value_len s bytes in
    let q : Pair = record { key = key; value = take n bytes } in
    let found : Option (Pair × List ℕ) = Some (q, drop n bytes) in
    elim (is_pair s q && ends_pair (drop n bytes)) as (λ t. (is_pair s q && ends_pair (drop n bytes)) ≡ t → cond t found None ≡ Some (p, r) → IsValue s key bytes p r) [
      | true ↦ λ h same.
          let same_both = same_parts (q, drop n bytes) (p, r) same in
          let pair : q ≡ p = same_both.0 in
          let rest : drop n bytes ≡ r = same_both.1 in
          let parts = and_parts _ _ h in
          record {
            key_is = ap (λ (x : Pair). x.key) pair;
            spelled = sym (take-append-drop n bytes) ∙ ap (λ (x : Pair). x.value ++ drop n bytes) pair ∙ ap (λ y. p.value ++ y) rest;
            kind = ap (is_pair s) (sym pair) ∙ parts.0;
            ends = ap ends_pair (sym rest) ∙ parts.1;
          }
      | false ↦ λ h same. absurd (none-some (p, r) same)
    ] refl e

pub skip_found : (b : ℕ) (bytes rest : List ℕ) → skip b bytes ≡ Some rest → bytes ≡ b ∷ rest
skip_found b [] rest e = absurd (cc e)
skip_found b (c ∷ bytes) rest e =
    elim (eqb c b) as (λ t. eqb c b ≡ t → cond t (Some bytes) None ≡ Some rest → c ∷ bytes ≡ b ∷ rest) [
      | true ↦ λ h same. let first : c ≡ b = eqb-true c b h in let tails : bytes ≡ rest = cc same in λ i. first i ∷ tails i
      | false ↦ λ h same. absurd (cc same)
    ] refl e

pub pair_found : (s : Side) (bytes : List ℕ) (p : Pair) (r : List ℕ) → pair_at s bytes ≡ Some (p, r) → IsFirst s bytes p r
pair_found s bytes p r e =
    let key = front word.Name false bytes in
    elim (skip 61 (back word.Name false bytes)) as (λ o. skip 61 (back word.Name false bytes) ≡ o → value_behind s key o ≡ Some (p, r) → IsFirst s bytes p r) [
      | None ↦ λ h same. absurd (none-some (p, r) same)
      | (Some v) ↦ λ h same.
          let is = value_found s key v p r same in
          let tail : back word.Name false bytes ≡ 61 ∷ v = skip_found 61 (back word.Name false bytes) v h in
          record {
            spelled = sym (front-back word.Name false bytes) ∙ ap (λ t. key ++ t) tail ∙ ap (λ t. key ++ 61 ∷ t) is.spelled ∙ ap (λ k. k ++ 61 ∷ (p.value ++ r)) is.key_is ∙ sym (append_assoc p.key (61 ∷ p.value) r);
            kind = is.kind;
            ends = is.ends;
          }
    ] refl e

-- bytes that begin with pairs
pairs_text : (p : Pair) (ps : List Pair) (r : List ℕ) → flat_map more_text (p ∷ ps) ++ r ≡ 44 ∷ (pair_text p ++ (flat_map more_text ps ++ r))
pairs_text p ps r = append_assoc (more_text p) (flat_map more_text ps) r

pairs_on : (ps : List Pair) (p : Pair) (r : List ℕ) → flat_map more_text ps ++ 44 ∷ (pair_text p ++ r) ≡ flat_map more_text (ps ++ p ∷ []) ++ r
pairs_on [] p r = sym (pairs_text p [] r)
pairs_on (u ∷ ps) p r =
    append_assoc (more_text u) (flat_map more_text ps) (44 ∷ (pair_text p ++ r))
    ∙ ap (λ t. more_text u ++ t) (pairs_on ps p r)
    ∙ sym (append_assoc (more_text u) (flat_map more_text (ps ++ p ∷ [])) r)

pub pairs_end : (ps : List Pair) (r : List ℕ) → ends_pair r ≡ true → ends_pair (flat_map more_text ps ++ r) ≡ true
pairs_end [] r h = h
pairs_end (p ∷ ps) r h = refl

pub ends_all_pairs : (s : Side) (r : List ℕ) → ends_all s r ≡ true → ends_pair r ≡ true
ends_all_pairs side.Tag [] h = refl
ends_all_pairs side.Tag (b ∷ r) h = or_right (eqb b 44) _ h
ends_all_pairs side.Field [] h = refl
ends_all_pairs side.Field (b ∷ r) h = or_right (eqb b 44) _ h

no_comma : (s : Side) (x r : List ℕ) → ends_all s r ≡ true → r ≡ 44 ∷ x → ⊥
no_comma side.Tag x r h e = false≢true (sym (ap (ends_all side.Tag) e) ∙ h)
no_comma side.Field x r h e = false≢true (sym (ap (ends_all side.Field) e) ∙ h)

-- bytes that begin with pairs `us` begin with the pairs `ps` that were read, and go on with more
record GoesOn (s : Side) (ps : List Pair) (r : List ℕ) (us : List Pair) (q : List ℕ) : Type 0 where
  more : List Pair
  joined : us ≡ ps ++ more
  rest : More s r more q

same_first : (s : Side) (p u : Pair) (a b : List ℕ) → is_pair s p ≡ true → is_pair s u ≡ true → ends_pair a ≡ true → ends_pair b ≡ true → pair_text p ++ a ≡ pair_text u ++ b → (p ≡ u) × (a ≡ b)
same_first s p u a b hp hu ea eb same =
    let one : Pair × List ℕ = (p, a) in
    let other : Pair × List ℕ = (u, b) in
    let both : Some one ≡ Some other = sym (pair_first s p a hp ea) ∙ ap (pair_at s) same ∙ pair_first s u b hu eb in
    same_parts (p, a) (u, b) both

goes_on : (s : Side) (ps : List Pair) (r : List ℕ) (us : List Pair) (q : List ℕ) → list_all (is_pair s) ps ≡ true → ends_pair r ≡ true → More s (flat_map more_text ps ++ r) us q → GoesOn s ps r us q
goes_on s [] r us q kinds ends h = record { more = us; joined = refl; rest = h }
goes_on s (p ∷ ps) r [] q kinds ends h = absurd (no_comma s (pair_text p ++ (flat_map more_text ps ++ r)) q h.ends (sym h.spelled ∙ pairs_text p ps r))
goes_on s (p ∷ ps) r (u ∷ us) q kinds ends h =
    let both : 44 ∷ (pair_text p ++ (flat_map more_text ps ++ r)) ≡ 44 ∷ (pair_text u ++ (flat_map more_text us ++ q)) = sym (pairs_text p ps r) ∙ h.spelled ∙ pairs_text u us q in
    let tails : pair_text p ++ (flat_map more_text ps ++ r) ≡ pair_text u ++ (flat_map more_text us ++ q) = cc both in
    let mine = and_parts _ _ kinds in
    let its = and_parts _ _ h.kinds in
    let same = same_first s p u _ _ mine.0 its.0 (pairs_end ps r ends) (pairs_end us q (ends_all_pairs s q h.ends)) tails in
    let g : GoesOn s ps r us q = goes_on s ps r us q mine.1 ends (record { spelled = same.1; kinds = its.1; ends = h.ends }) in
    record { more = g.more; joined = λ i. (sym same.0) i ∷ g.joined i; rest = g.rest }

-- these pairs were read from the front of the bytes, and this stands behind them
pub record HasRead (s : Side) (bytes : List ℕ) (earlier all : List Pair) (rest : List ℕ) : Type 0 where
  pub pairs : List Pair
  pub joined : all ≡ earlier ++ pairs
  pub spelled : bytes ≡ flat_map more_text pairs ++ rest
  pub kinds : list_all (is_pair s) pairs ≡ true
  pub ends : ends_pair rest ≡ true

on_from : (s : Side) (bytes : List ℕ) (earlier all : List Pair) (rest : List ℕ) (h : HasRead s bytes earlier all rest) (us : List Pair) (q : List ℕ) → More s bytes us q → GoesOn s h.pairs rest us q
on_from s bytes earlier all rest h us q m =
    goes_on s h.pairs rest us q h.kinds h.ends (record { spelled = sym h.spelled ∙ m.spelled; kinds = m.kinds; ends = m.ends })

no_pair_at : (s : Side) (rest after : List ℕ) → rest ≡ 44 ∷ after → pair_at s after ≡ None → (us : List Pair) (q : List ℕ) → More s rest us q → ⊥
no_pair_at s rest after comma none [] q m = no_comma s after q m.ends (sym m.spelled ∙ comma)
no_pair_at s rest after comma none (u ∷ us) q m =
    let kinds = and_parts _ _ m.kinds in
    let tails : after ≡ pair_text u ++ (flat_map more_text us ++ q) = cc (sym comma ∙ m.spelled ∙ pairs_text u us q) in
    let found : pair_at s after ≡ Some (u, flat_map more_text us ++ q) = ap (pair_at s) tails ∙ pair_first s u _ kinds.0 (pairs_end us q (ends_all_pairs s q m.ends)) in
    none-some (u, flat_map more_text us ++ q) (sym none ∙ found)

pub no_pair_here : (s : Side) (bytes : List ℕ) (earlier all : List Pair) (rest after : List ℕ) → HasRead s bytes earlier all rest → skip 44 rest ≡ Some after → pair_at s after ≡ None → (us : List Pair) (q : List ℕ) → More s bytes us q → ⊥
no_pair_here s bytes earlier all rest after h comma none us q m =
    let g = on_from s bytes earlier all rest h us q m in no_pair_at s rest after (skip_found 44 rest after comma) none g.more q g.rest

no_end_at : (s : Side) (rest : List ℕ) → skip 44 rest ≡ None → ends_all s rest ≡ false → (us : List Pair) (q : List ℕ) → More s rest us q → ⊥
no_end_at s rest comma ends [] q m = false≢true (sym ends ∙ ap (ends_all s) m.spelled ∙ m.ends)
no_end_at s rest comma ends (u ∷ us) q m =
    none-some (pair_text u ++ (flat_map more_text us ++ q)) (sym comma ∙ ap (skip 44) (m.spelled ∙ pairs_text u us q))

pub no_end_here : (s : Side) (bytes : List ℕ) (earlier all : List Pair) (rest : List ℕ) → HasRead s bytes earlier all rest → skip 44 rest ≡ None → ends_all s rest ≡ false → (us : List Pair) (q : List ℕ) → More s bytes us q → ⊥
no_end_here s bytes earlier all rest h comma ends us q m =
    let g = on_from s bytes earlier all rest h us q m in no_end_at s rest comma ends g.more q g.rest

-- one pair more is read
pub read_next : (s : Side) (bytes : List ℕ) (earlier all : List Pair) (rest after : List ℕ) (p : Pair) (r : List ℕ) → HasRead s bytes earlier all rest → skip 44 rest ≡ Some after → pair_at s after ≡ Some (p, r) → HasRead s bytes earlier (all ++ p ∷ []) r
read_next s bytes earlier all rest after p r h comma found =
    let first = pair_found s after p r found in
    let tail : rest ≡ 44 ∷ (pair_text p ++ r) = skip_found 44 rest after comma ∙ ap (λ t. 44 ∷ t) first.spelled in
    record {
      pairs = h.pairs ++ p ∷ [];
      joined = ap (λ l. l ++ p ∷ []) h.joined ∙ append_assoc earlier h.pairs (p ∷ []);
      spelled = h.spelled ∙ ap (λ t. flat_map more_text h.pairs ++ t) tail ∙ pairs_on h.pairs p r;
      kinds = list_all-append (is_pair s) h.pairs (p ∷ []) ∙ and_from _ _ h.kinds (and_from _ _ first.kind refl);
      ends = first.ends;
    }

pub next_shorter : (s : Side) (rest after : List ℕ) (p : Pair) (r : List ℕ) → skip 44 rest ≡ Some after → pair_at s after ≡ Some (p, r) → length r < length rest
next_shorter s rest after p r comma found =
    omega (arith, ap length (skip_found 44 rest after comma), ap length (pair_found s after p r found).spelled, length-append (pair_text p) r)

-- pairs stand in one way in some bytes
no_more : (s : Side) (ps : List Pair) (r : List ℕ) (more us : List Pair) (q : List ℕ) → us ≡ ps ++ more → ends_all s r ≡ true → More s r more q → (ps ≡ us) × (r ≡ q)
no_more s ps r [] us q joined ends h = (sym (append-nil ps) ∙ sym joined, h.spelled)
no_more s ps r (u ∷ more) us q joined ends h = absurd (no_comma s (pair_text u ++ (flat_map more_text more ++ q)) r ends (h.spelled ∙ pairs_text u more q))

pub same_more : (s : Side) (bytes : List ℕ) (ps us : List Pair) (r q : List ℕ) → More s bytes ps r → More s bytes us q → (ps ≡ us) × (r ≡ q)
same_more s bytes ps us r q g h =
    let on : GoesOn s ps r us q = goes_on s ps r us q g.kinds (ends_all_pairs s r g.ends) (record { spelled = sym g.spelled ∙ h.spelled; kinds = h.kinds; ends = h.ends }) in
    no_more s ps r on.more us q on.joined g.ends on.rest
