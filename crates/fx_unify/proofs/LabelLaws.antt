-- Lists of labels.
use Rattle.std.proofs.Common.{◌≡◌, refl, sym, ap, subst, ◌∙◌, ℕ, zero, suc, ◌+◌, ◌<◌, max, Bool, true, false, List, [], ◌∷◌, ◌++◌, map, take, drop, get_or, length, arith}
use Rattle.std.specs.Prelude.{if◌then◌else◌}
use Rattle.std.proofs.lemmas.List.{drop_more, take_more, map-append}
use mathlib.Core.Bool.{true≢false}
use Rattle.fx_base.specs.Text.{same_text}
use Rattle.fx_types.specs.Term.{Label}
use Rattle.fx_types.specs.Ground.{listed}
use Rattle.fx_types.specs.Size.{AreDistinct}
use Rattle.fx_unify.specs.Pick.{IsFirst}
use Rattle.fx_unify.specs.Rows.{Grows}
use Rattle.fx_types.proofs.Choices.{chosen, passed, never, by_cases, neither}
use Rattle.fx_types.proofs.RowSums.{same_is, same_itself, zeros, length-zeros}

pub listed_one_more : (l x : Label) (ls : List Label) → listed l (ls ++ x ∷ []) ≡ (if same_text l x then true else listed l ls)
listed_one_more l x [] = refl
listed_one_more l x (y ∷ ls) = step (same_text l y) (same_text l x) (listed l (ls ++ x ∷ [])) (listed l ls) (listed_one_more l x ls)
  where
    step : (a b c d : Bool) → c ≡ (if b then true else d) → (if a then true else c) ≡ (if b then true else (if a then true else d))
    step true true c d e = refl
    step true false c d e = refl
    step false b c d e = e

longest : List Label → ℕ
longest [] = 0
longest (l ∷ ls) = max (length l) (longest ls)

longer_unlisted : (l : Label) (ls : List Label) → longest ls < length l → listed l ls ≡ false
unfolding longest
longer_unlisted l [] h = refl
longer_unlisted l (x ∷ ls) h =
    by_cases (same_text l x) (λ e. let same : length l ≡ length x = ap length (same_is l x e) in absurd (omega arith))
    (λ e. passed (same_text l x) true (listed l ls) e ∙ longer_unlisted l ls (omega arith))

pub fresh_label : (ls ms : List Label) → (l : Label) × (listed l ls ≡ false) × (listed l ms ≡ false)
fresh_label ls ms =
    let n : ℕ = longest ls + longest ms + 1 in
    let size : length (zeros n) ≡ n = length-zeros n in
    (zeros n, longer_unlisted (zeros n) ls (omega arith), longer_unlisted (zeros n) ms (omega arith))

pub listed_append : (l : Label) (xs ys : List Label) → listed l (xs ++ ys) ≡ (if listed l xs then true else listed l ys)
listed_append l [] ys = refl
listed_append l (x ∷ xs) ys = step (same_text l x) (listed l xs) (listed l ys) (listed l (xs ++ ys)) (listed_append l xs ys)
  where
    step : (a b c d : Bool) → d ≡ (if b then true else c) → (if a then true else d) ≡ (if (if a then true else b) then true else c)
    step true b c d e = refl
    step false b c d e = e

-- a list that got one label more

apart_both : (x l : Label) → same_text x l ≡ false → same_text l x ≡ false
apart_both x l h = by_cases (same_text l x) (λ e. never (same_text x l) (subst (λ y. same_text x y ≡ true) (sym (same_is l x e)) (same_itself x)) h) (λ e. e)

distinct_more : (ls : List Label) (x : Label) → AreDistinct ls → listed x ls ≡ false → AreDistinct (ls ++ x ∷ [])
distinct_more [] x d h = (refl, tt)
distinct_more (l ∷ ls) x d h =
    let apart : (same_text x l ≡ false) × (listed x ls ≡ false) = neither (same_text x l) (listed x ls) h in
    (listed_one_more l x ls ∙ passed (same_text l x) true (listed l ls) (apart_both x l apart.0) ∙ d.0, distinct_more ls x d.1 apart.1)

pub grows_not : (ls : List Label) → Grows ls ls
grows_not ls = (λ l h. h, λ d. d)

pub grows_more : (ls ms ns : List Label) → Grows ls ms → Grows ms ns → Grows ls ns
grows_more ls ms ns h k = (λ l e. k.0 l (h.0 l e), λ d. k.1 (h.1 d))

pub new_label : (ls ms : List Label) (x y : Label) → ms ≡ ls ++ y ∷ [] → y ≡ x → false ≡ listed x ls → (listed x ms ≡ true) × Grows ls ms
new_label ls ms x y pushed is new = (
  there x ∙ chosen (same_text x y) true (listed x ls) (subst (λ z. same_text x z ≡ true) (sym is) (same_itself x)),
  (
    λ l h. there l ∙ by_cases (same_text l y) (λ e. chosen (same_text l y) true (listed l ls) e) (λ e. passed (same_text l y) true (listed l ls) e ∙ h),
    λ d. subst AreDistinct (sym pushed) (distinct_more ls y d (ap (λ z. listed z ls) is ∙ sym new)),
  ),
)
  where
    there : (l : Label) → listed l ms ≡ (if same_text l y then true else listed l ls)
    there l = ap (listed l) pushed ∙ listed_one_more l y ls

-- one item of a list after the other

pub all_listed : {A : Type 0} (name : A → Label) (xs : List A) (i : ℕ) (x : A) (start ms ns : List Label) → i < length xs → x ≡ get_or xs i x
    → ((l : Label) → listed l (map name (take i xs)) ≡ true → listed l ms ≡ true) × Grows start ms → (listed (name x) ns ≡ true) × Grows ms ns
    → ((l : Label) → listed l (map name (take (i + 1) xs)) ≡ true → listed l ns ≡ true) × Grows start ns
all_listed name xs i x start ms ns lt at before h = (there, grows_more start ms ns before.1 h.1)
  where
    more : map name (take (i + 1) xs) ≡ map name (take i xs) ++ name x ∷ []
    more = ap (map name) (take_more xs i x lt ∙ ap (λ d. take i xs ++ d ∷ []) (sym at)) ∙ map-append name (take i xs) (x ∷ [])

    there : (l : Label) → listed l (map name (take (i + 1) xs)) ≡ true → listed l ns ≡ true
    there l e =
        by_cases (same_text l (name x)) (λ q. ap (λ y. listed y ns) (same_is l (name x) q) ∙ h.0)
        (λ q. h.1.0 l (before.0 l (sym (passed (same_text l (name x)) true (listed l (map name (take i xs))) q) ∙ sym (listed_one_more l (name x) (map name (take i xs))) ∙ sym (ap (listed l) more) ∙ e)))

pub none_listed : {A : Type 0} (name : A → Label) (xs : List A) (start : List Label)
    → ((l : Label) → listed l (map name (take 0 xs)) ≡ true → listed l start ≡ true) × Grows start start
none_listed name [] start = (λ l h. absurd (true≢false (sym h)), grows_not start)
none_listed name (x ∷ xs) start = (λ l h. absurd (true≢false (sym h)), grows_not start)

-- a label that is not in the longer list isn't in the shorter one
pub not_before : (ls ms : List Label) (l : Label) → ((l : Label) → listed l ls ≡ true → listed l ms ≡ true) → listed l ms ≡ false → listed l ls ≡ false
not_before ls ms l more h = by_cases (listed l ls) (λ e. never (listed l ms) (more l e) h) (λ e. e)

-- the search for the first place of a label

pub first_found : {A : Type 0} (name : A → Label) (l : Label) (xs : List A) (i : ℕ) (x : A) → i < length xs → x ≡ get_or xs i x → same_text l (name x) ≡ true
    → ((k : ℕ) → IsFirst l (map name (drop i xs)) k → IsFirst l (map name xs) (i + k)) → IsFirst l (map name xs) i
first_found name l xs i x lt at e h =
    let split : drop i xs ≡ x ∷ drop (i + 1) xs = drop_more xs i x lt ∙ ap (λ d. d ∷ drop (i + 1) xs) (sym at) in
    let n : i + 0 ≡ i = omega arith in
    subst (IsFirst l (map name xs)) n (h 0 (subst (λ ds. IsFirst l (map name ds) 0) (sym split) e))

pub first_missed : {A : Type 0} (name : A → Label) (l : Label) (xs : List A) (i : ℕ) (x : A) → i < length xs → x ≡ get_or xs i x → same_text l (name x) ≡ false
    → (listed l (map name xs) ≡ listed l (map name (drop i xs))) × ((k : ℕ) → IsFirst l (map name (drop i xs)) k → IsFirst l (map name xs) (i + k))
    → (listed l (map name xs) ≡ listed l (map name (drop (i + 1) xs))) × ((k : ℕ) → IsFirst l (map name (drop (i + 1) xs)) k → IsFirst l (map name xs) (i + 1 + k))
first_missed name l xs i x lt at e h =
    let split : drop i xs ≡ x ∷ drop (i + 1) xs = drop_more xs i x lt ∙ ap (λ d. d ∷ drop (i + 1) xs) (sym at) in (
      h.0 ∙ ap (λ ds. listed l (map name ds)) split ∙ passed (same_text l (name x)) true (listed l (map name (drop (i + 1) xs))) e,
      λ k first. (let n : i + suc k ≡ i + 1 + k = omega arith in subst (IsFirst l (map name xs)) n (h.1 (suc k) (subst (λ ds. IsFirst l (map name ds) (suc k)) (sym split) (e, first)))),
    )

pub first_below : {A : Type 0} (name : A → Label) (l : Label) (xs : List A) (i : ℕ) → IsFirst l (map name xs) i → i < length xs
first_below name l [] i h = absurd h
first_below name l (x ∷ xs) zero h = omega arith
first_below name l (x ∷ xs) (suc i) h = let lt : i < length xs = first_below name l xs i h.1 in omega arith
