-- Spaces at the ends of bytes.
use Rattle.std.proofs.Common.{◌≡◌, ℕ, Bool, true, false, not, ◌&&◌, cond, List, [], ◌∷◌, ◌++◌, refl, sym, ap, ◌∙◌, eqb}
use Rattle.std.specs.List.{list_all}
use Rattle.std.proofs.lemmas.Bool.{and_from, eqb-true, false≢true}
use Rattle.fx_line.specs.Word.{begins}
use Rattle.fx_line.specs.Line.{without_spaces, is_empty, without_last_spaces}

pub last_space_off : (r : List ℕ) → without_last_spaces (r ++ 32 ∷ []) ≡ without_last_spaces r
last_space_off [] = refl
last_space_off (b ∷ r) = ap (λ x. cond (eqb b 32 && is_empty x) [] (b ∷ x)) (last_space_off r)

pub no_last_space : (r : List ℕ) → ((s : List ℕ) → r ≡ s ++ 32 ∷ [] → ⊥) → without_last_spaces r ≡ r
no_last_space [] none = refl
no_last_space (b ∷ []) none =
    elim (eqb b 32) as (λ t. eqb b 32 ≡ t → cond (t && true) [] (b ∷ []) ≡ b ∷ []) [
      | true ↦ λ e. let same : b ≡ 32 = eqb-true b 32 e in absurd (none [] (ap (λ x. x ∷ []) same))
      | false ↦ λ e. refl
    ] refl
no_last_space (b ∷ c ∷ r) none =
    let rest = no_last_space (c ∷ r) (λ s e. none (b ∷ s) (ap (λ x. b ∷ x) e)) in
    ap (λ x. cond (eqb b 32 && is_empty x) [] (b ∷ x)) rest
    ∙ elim (eqb b 32) as (λ t. cond (t && false) [] (b ∷ c ∷ r) ≡ b ∷ c ∷ r) [
      | true ↦ refl
      | false ↦ refl
    ]

-- the first byte is no space
pub record IsFlush (r : List ℕ) : Type 0 where
  pub flush : begins (λ b. eqb b 32) r ≡ false

pub spaces_off : (g r : List ℕ) → list_all (λ b. eqb b 32) g ≡ true → IsFlush r → without_spaces (g ++ r) ≡ r
spaces_off [] [] h e = refl
spaces_off [] (b ∷ r) h e = ap (λ t. cond t (without_spaces r) (b ∷ r)) e.flush
spaces_off (b ∷ g) r h e =
    elim (eqb b 32) as (λ t. (t && list_all (λ c. eqb c 32) g) ≡ true → cond t (without_spaces (g ++ r)) (b ∷ (g ++ r)) ≡ r) [
      | true ↦ λ k. spaces_off g r k e
      | false ↦ λ k. absurd (false≢true k)
    ] h

-- the spaces that are taken off at the front
pub record Spaces (r : List ℕ) : Type 0 where
  pub spaces : List ℕ
  pub are : list_all (λ b. eqb b 32) spaces ≡ true
  pub joined : r ≡ spaces ++ without_spaces r

spaces_found : (b : ℕ) (r : List ℕ) (t : Bool) → eqb b 32 ≡ t → Spaces r → (s : List ℕ) × (list_all (λ c. eqb c 32) s ≡ true) × (b ∷ r ≡ s ++ cond t (without_spaces r) (b ∷ r))
spaces_found b r true e rest = (b ∷ rest.spaces, and_from _ _ e rest.are, ap (λ x. b ∷ x) rest.joined)
spaces_found b r false e rest = ([], refl, refl)

pub spaces_of : (r : List ℕ) → Spaces r
spaces_of [] = record { spaces = []; are = refl; joined = refl }
spaces_of (b ∷ r) = let h = spaces_found b r (eqb b 32) refl (spaces_of r) in record { spaces = h.0; are = h.1; joined = h.2 }
