-- Where a line is a text, all its parts are texts.
use Rattle.std.proofs.Common.{◌≡◌, ◌≢◌, ℕ, ◌+◌, ◌<◌, ◌≤◌, Bool, true, false, not, ◌&&◌, ◌||◌, cond, List, [], ◌∷◌, ◌++◌, length, refl, sym, ap, ◌∙◌, subst, arith, append_assoc, append-nil, length-append, eqb, Option, Some, None}
use Rattle.std.specs.Prelude.{All}
use Rattle.std.specs.List.{list_all, flat_map}
use Rattle.std.specs.Str.{IsUtf8}
use Rattle.std.proofs.lemmas.Bool.{and_parts, eqb-true, false≢true}
use Rattle.std.proofs.lemmas.List.Elements.{All-nil, All-cons}
use Rattle.fx_line.specs.Line.{Pair, Written, without_spaces, without_last_spaces, trimmed, is_empty, is_gap, pair_text, more_text, fields_text, time_text, are_fields, IsSpelled}
use Rattle.fx_line.specs.Collected.{IsTextPair, AreTexts}
use Rattle.fx_line.proofs.TextParts.{text_before, text_from, text_behind}
use Rattle.fx_line.proofs.Trimming.{spaces_of}

space_small : (b : ℕ) → eqb b 32 ≡ true → b < 128
space_small b e = omega (arith, eqb-true b 32 e)

-- spaces at the ends
spaces_before : (s r : List ℕ) → list_all (λ b. eqb b 32) s ≡ true → IsUtf8 (s ++ r) → IsUtf8 r
spaces_before [] r h u = u
spaces_before (b ∷ s) r h u =
    let parts = and_parts _ _ h in spaces_before s r parts.1 (text_behind [] b (s ++ r) (space_small b parts.0) u)

record Trails (r : List ℕ) : Type 0 where
  spaces : List ℕ
  are : list_all (λ b. eqb b 32) spaces ≡ true
  joined : r ≡ without_last_spaces r ++ spaces

nothing : (x : List ℕ) → is_empty x ≡ true → x ≡ []
nothing [] k = refl
nothing (c ∷ x) k = absurd (false≢true k)

trails_on : (b : ℕ) (r : List ℕ) (t : Bool) (e : Bool) → eqb b 32 ≡ t → is_empty (without_last_spaces r) ≡ e → (h : Trails r) → (s : List ℕ) × (list_all (λ c. eqb c 32) s ≡ true) × (b ∷ r ≡ cond (t && e) [] (b ∷ without_last_spaces r) ++ s)
trails_on b r true true space empty h = (b ∷ h.spaces, ap (λ t. t && list_all (λ c. eqb c 32) h.spaces) space ∙ h.are, ap (λ x. b ∷ x) (h.joined ∙ ap (λ x. x ++ h.spaces) (nothing (without_last_spaces r) empty)))
trails_on b r true false space empty h = (h.spaces, h.are, ap (λ x. b ∷ x) h.joined)
trails_on b r false e space empty h = (h.spaces, h.are, ap (λ x. b ∷ x) h.joined)

trails_of : (r : List ℕ) → Trails r
trails_of [] = record { spaces = []; are = refl; joined = refl }
trails_of (b ∷ r) = let h = trails_on b r (eqb b 32) (is_empty (without_last_spaces r)) refl refl (trails_of r) in record { spaces = h.0; are = h.1; joined = h.2 }

before_spaces : (r s : List ℕ) → list_all (λ b. eqb b 32) s ≡ true → IsUtf8 (r ++ s) → IsUtf8 r
before_spaces r [] h u = subst IsUtf8 (append-nil r) u
before_spaces r (b ∷ s) h u = text_before r b s (space_small b (and_parts _ _ h).0) u

trimmed_text : (line : List ℕ) → IsUtf8 line → IsUtf8 (trimmed line)
trimmed_text line u =
    let front = spaces_of line in
    let rest : IsUtf8 (without_spaces line) = spaces_before front.spaces (without_spaces line) front.are (subst IsUtf8 front.joined u) in
    let t = trails_of (without_spaces line) in
    before_spaces (trimmed line) t.spaces t.are (subst IsUtf8 t.joined rest)

pub trimmed_short : (line : List ℕ) → length (trimmed line) ≤ length line
trimmed_short line =
    let front = spaces_of line in
    let t = trails_of (without_spaces line) in
    omega (arith, ap length front.joined, length-append front.spaces (without_spaces line), ap length t.joined, length-append (trimmed line) t.spaces)

-- nothing stands behind, or an ASCII byte
Opens : List ℕ → Type 0
Opens [] = Unit {0}
Opens (b ∷ r) = b < 128

text_until : (xs r : List ℕ) → Opens r → IsUtf8 (xs ++ r) → IsUtf8 xs
unfolding Opens
text_until xs [] o u = subst IsUtf8 (append-nil xs) u
text_until xs (b ∷ r) o u = text_before xs b r o u

text_rest : (xs r : List ℕ) → Opens r → IsUtf8 (xs ++ r) → r ≢ [] → IsUtf8 r
unfolding Opens
text_rest xs [] o u some = absurd (some refl)
text_rest xs (b ∷ r) o u some = text_from xs b r o u

pair_texts : (p : Pair) (r : List ℕ) → Opens r → IsUtf8 (pair_text p ++ r) → IsTextPair p
pair_texts p r o u =
    let joined : pair_text p ++ r ≡ p.key ++ 61 ∷ (p.value ++ r) = append_assoc p.key (61 ∷ p.value) r in
    let all : IsUtf8 (p.key ++ 61 ∷ (p.value ++ r)) = subst IsUtf8 joined u in
    (text_before p.key 61 (p.value ++ r) (omega arith) all, text_until p.value r o (text_behind p.key 61 (p.value ++ r) (omega arith) all))

pairs_open : (ps : List Pair) (r : List ℕ) → Opens r → Opens (flat_map more_text ps ++ r)
unfolding Opens
pairs_open [] r o = o
pairs_open (p ∷ ps) r o = omega arith

behind_pair : (p : Pair) (r : List ℕ) → Opens r → r ≢ [] → IsUtf8 (pair_text p ++ r) → IsUtf8 r
behind_pair p r o some u = text_rest (pair_text p) r o u some

more_split : (p : Pair) (ps : List Pair) (r : List ℕ) → flat_map more_text (p ∷ ps) ++ r ≡ 44 ∷ (pair_text p ++ (flat_map more_text ps ++ r))
more_split p ps r = append_assoc (more_text p) (flat_map more_text ps) r

pairs_some : (p : Pair) (ps : List Pair) (r : List ℕ) → flat_map more_text (p ∷ ps) ++ r ≢ []
pairs_some p ps r e = cc (sym (more_split p ps r) ∙ e)

pairs_texts : (ps : List Pair) (r : List ℕ) → Opens r → IsUtf8 (flat_map more_text ps ++ r) → All IsTextPair ps
pairs_texts [] r o u = All-nil IsTextPair
pairs_texts (p ∷ []) r o u =
    let rest : IsUtf8 (pair_text p ++ r) = text_behind [] 44 (pair_text p ++ r) (omega arith) (subst IsUtf8 (more_split p [] r) u) in
    All-cons IsTextPair p [] (pair_texts p r o rest) (All-nil IsTextPair)
pairs_texts (p ∷ q ∷ ps) r o u =
    let tail : List ℕ = flat_map more_text (q ∷ ps) ++ r in
    let rest : IsUtf8 (pair_text p ++ tail) = text_behind [] 44 (pair_text p ++ tail) (omega arith) (subst IsUtf8 (more_split p (q ∷ ps) r) u) in
    let opens = pairs_open (q ∷ ps) r o in
    All-cons IsTextPair p (q ∷ ps) (pair_texts p tail opens rest) (pairs_texts (q ∷ ps) r o (behind_pair p tail opens (pairs_some q ps r) rest))

-- the gaps
gap_open : (g r : List ℕ) → is_gap g ≡ true → Opens (g ++ r)
unfolding Opens
gap_open [] r h = absurd (false≢true h)
gap_open (b ∷ g) r h = space_small b (and_parts _ _ h).0

gap_all : (g : List ℕ) → is_gap g ≡ true → list_all (λ b. eqb b 32) g ≡ true
gap_all [] h = refl
gap_all (b ∷ g) h = h

gap_some : (g r : List ℕ) → is_gap g ≡ true → g ++ r ≢ []
gap_some [] r h e = false≢true h
gap_some (b ∷ g) r h e = cc e

time_open : (g : List ℕ) (time : Option (List ℕ)) → is_gap g ≡ true → Opens (time_text g time)
unfolding Opens
time_open g None h = tt
time_open g (Some t) h = gap_open g t h

fields_texts : (fs : List Pair) (r : List ℕ) → Opens r → IsUtf8 (fields_text fs ++ r) → All IsTextPair fs
fields_texts [] r o u = All-nil IsTextPair
fields_texts (f ∷ []) r o u =
    All-cons IsTextPair f [] (pair_texts f r o (subst IsUtf8 (append_assoc (pair_text f) [] r) u)) (All-nil IsTextPair)
fields_texts (f ∷ g ∷ fs) r o u =
    let tail : List ℕ = flat_map more_text (g ∷ fs) ++ r in
    let all : IsUtf8 (pair_text f ++ tail) = subst IsUtf8 (append_assoc (pair_text f) (flat_map more_text (g ∷ fs)) r) u in
    let opens = pairs_open (g ∷ fs) r o in
    All-cons IsTextPair f (g ∷ fs) (pair_texts f tail opens all) (pairs_texts (g ∷ fs) r o (behind_pair f tail opens (pairs_some g fs r) all))

-- the tags are read away
behind_pairs : (ps : List Pair) (r : List ℕ) → Opens r → r ≢ [] → IsUtf8 (flat_map more_text ps ++ r) → IsUtf8 r
behind_pairs ps r o some u = text_rest (flat_map more_text ps) r o u some

tail_some : (ps : List Pair) (r : List ℕ) → r ≢ [] → flat_map more_text ps ++ r ≢ []
tail_some [] r some = some
tail_some (p ∷ ps) r some = pairs_some p ps r

pub spelled_texts : (line : List ℕ) (w : Written) → IsUtf8 line → IsSpelled (trimmed line) w → AreTexts w
spelled_texts line w u h =
    let time : List ℕ = time_text h.later_gap w.time in
    let fields : List ℕ = fields_text w.fields ++ time in
    let tail : List ℕ = h.gap ++ fields in
    let opens = gap_open h.gap fields h.gap_is in
    let whole : IsUtf8 (w.measurement ++ (flat_map more_text w.tags ++ tail)) = subst IsUtf8 h.spelled (trimmed_text line u) in
    let tags_open = pairs_open w.tags tail opens in
    let tags : IsUtf8 (flat_map more_text w.tags ++ tail) = text_rest w.measurement (flat_map more_text w.tags ++ tail) tags_open whole (tail_some w.tags tail (gap_some h.gap fields h.gap_is)) in
    let rest : IsUtf8 tail = behind_pairs w.tags tail opens (gap_some h.gap fields h.gap_is) tags in
    record {
      measurement = text_until w.measurement (flat_map more_text w.tags ++ tail) tags_open whole;
      tags = pairs_texts w.tags tail opens tags;
      fields = fields_texts w.fields time (time_open h.later_gap w.time h.later_gap_is) (spaces_before h.gap fields (gap_all h.gap h.gap_is) rest);
    }

-- a line has no more fields than bytes
pairs_long : (ps : List Pair) → length ps ≤ length (flat_map more_text ps)
pairs_long [] = omega arith
pairs_long (p ∷ ps) = omega (arith, pairs_long ps, length-append (more_text p) (flat_map more_text ps))

fields_long : (fs : List Pair) → length fs ≤ length (fields_text fs)
fields_long [] = omega arith
fields_long (f ∷ fs) = omega (arith, pairs_long fs, length-append (pair_text f) (flat_map more_text fs), length-append f.key (61 ∷ f.value))

pub few_fields : (line : List ℕ) (w : Written) → IsSpelled (trimmed line) w → length w.fields ≤ length line
few_fields line w h =
    let time : List ℕ = time_text h.later_gap w.time in
    let fields : List ℕ = fields_text w.fields ++ time in
    omega (arith, trimmed_short line, ap length h.spelled, length-append w.measurement (flat_map more_text w.tags ++ (h.gap ++ fields)), length-append (flat_map more_text w.tags) (h.gap ++ fields), length-append h.gap fields, length-append (fields_text w.fields) time, fields_long w.fields)
