-- Hashed labels.
use Rattle.std.proofs.Common.{◌≡◌, refl, sym, ap, ◌∙◌, ℕ, ◌+◌, ◌<◌, ◌≤◌, Bool, true, false, ◌||◌, List, [], ◌∷◌, ◌++◌, map, take, get_or, length}
use Rattle.std.specs.Prelude.{if◌then◌else◌}
use Rattle.std.specs.List.{list_any}
use Rattle.std.proofs.lemmas.List.{take_more}
use Rattle.indexmap.specs.IndexSet.{insert_key}
use Rattle.fx_base.specs.Text.{same_text}
use Rattle.fx_types.specs.Ground.{listed}
use Rattle.fx_types.specs.Term.{Label}
use Rattle.fx_types.proofs.Lists.{take_all}
use Rattle.fx_types.proofs.Choices.{by_cases, chosen, passed}
use Rattle.fx_types.proofs.RowSums.{same_is}
use Rattle.fx_unify.proofs.LabelLaws.{listed_one_more}

pub any_listed : (l : Label) (ls : List Label) → list_any (same_text l) ls ≡ listed l ls
any_listed l [] = refl
any_listed l (x ∷ ls) = step (same_text l x) (list_any (same_text l) ls) (listed l ls) (any_listed l ls)
  where
    step : (a b c : Bool) → b ≡ c → (a || b) ≡ (if a then true else c)
    step true b c e = refl
    step false b c e = e

-- one label more is hashed
pub hashed_one_more : (keys : List Label) (x l : Label) → listed l (insert_key same_text keys x) ≡ (if same_text l x then true else listed l keys)
hashed_one_more keys x l = by_cases (list_any (same_text x) keys) there new
  where
    there : list_any (same_text x) keys ≡ true → listed l (insert_key same_text keys x) ≡ (if same_text l x then true else listed l keys)
    there e =
        ap (listed l) (chosen (list_any (same_text x) keys) keys (keys ++ x ∷ []) e)
        ∙ by_cases (same_text l x) (λ d. ap (λ y. listed y keys) (same_is l x d) ∙ sym (any_listed x keys) ∙ e ∙ sym (chosen (same_text l x) true (listed l keys) d)) (λ d. sym (passed (same_text l x) true (listed l keys) d))

    new : list_any (same_text x) keys ≡ false → listed l (insert_key same_text keys x) ≡ (if same_text l x then true else listed l keys)
    new e = ap (listed l) (passed (list_any (same_text x) keys) keys (keys ++ x ∷ []) e) ∙ listed_one_more l x keys

-- so is one label more of a list
pub hashed_more : (keys more ls : List Label) (x : Label) → more ≡ insert_key same_text keys x → ((l : Label) → listed l keys ≡ listed l ls) → (l : Label) → listed l more ≡ listed l (ls ++ x ∷ [])
hashed_more keys more ls x is same l =
    ap (listed l) is ∙ hashed_one_more keys x l ∙ ap (λ b. if same_text l x then true else b) (same l) ∙ sym (listed_one_more l x ls)

pub hashed_next : (keys more ls : List Label) (i : ℕ) (x y : Label) → i < length ls → x ≡ get_or ls i x → y ≡ x → more ≡ insert_key same_text keys y
    → ((l : Label) → listed l keys ≡ listed l (take i ls)) → (l : Label) → listed l more ≡ listed l (take (i + 1) ls)
hashed_next keys more ls i x y lt at copied is same l =
    let next : take (i + 1) ls ≡ take i ls ++ x ∷ [] = take_more ls i x lt ∙ ap (λ d. take i ls ++ d ∷ []) (sym at) in
    hashed_more keys more (take i ls) x (is ∙ ap (insert_key same_text keys) copied) same l ∙ ap (listed l) (sym next)

-- all of a list

all_same : (ls : List Label) → map (λ l. l) ls ≡ ls
all_same [] = refl
all_same (l ∷ ls) = ap (λ ms. l ∷ ms) (all_same ls)

pub all_taken : (ls : List Label) (i : ℕ) → length ls ≤ i → map (λ l. l) (take i ls) ≡ ls
all_taken ls i le = ap (map (λ l. l)) (take_all ls i le) ∙ all_same ls
