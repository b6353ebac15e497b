-- Statements one after another.
use Rattle.std.proofs.Common.{◌≡◌, ◌↔◌, refl, sym, subst, ◌∙◌, ap, ℕ, ◌+◌, ◌<◌, List, [], ◌∷◌, ◌++◌, take, length, get_or}
use Rattle.std.proofs.lemmas.List.{take_more}
use Rattle.fx_ast.specs.Tree.{StatementTree}
use Rattle.fx_infer.specs.Environment.{Env}
use Rattle.fx_infer.specs.Script.{after, after_all, KeepsRules, AreTyped, HasTyping}

pub typed_joined : (ss ts : List StatementTree) (env : Env) → AreTyped (ss ++ ts) env ↔ (AreTyped ss env × AreTyped ts (after_all ss env))
typed_joined [] ts env = (λ h. (tt, h), λ h. h.1)
typed_joined (s ∷ ss) ts env = (
  λ h. (let k : AreTyped ss (after s.form env) × AreTyped ts (after_all ss (after s.form env)) = (typed_joined ss ts (after s.form env)).0 h.1 in ((h.0, k.0), k.1)),
  λ h. (h.0.0, (typed_joined ss ts (after s.form env)).1 (h.0.1, h.1)),
)

pub after_joined : (ss ts : List StatementTree) (env : Env) → after_all (ss ++ ts) env ≡ after_all ts (after_all ss env)
after_joined [] ts env = refl
after_joined (s ∷ ss) ts env = after_joined ss ts (after s.form env)

-- one statement more
pub typed_next : (ss : List StatementTree) (i : ℕ) (s : StatementTree) → i < length ss → s ≡ get_or ss i s
    → HasTyping (take (i + 1) ss) ↔ (HasTyping (take i ss) × KeepsRules s.form (after_all (take i ss) []))
typed_next ss i s lt at =
    let next : take (i + 1) ss ≡ take i ss ++ s ∷ [] = take_more ss i s lt ∙ ap (λ d. take i ss ++ d ∷ []) (sym at) in
    let one : HasTyping (take i ss ++ s ∷ []) ↔ (HasTyping (take i ss) × AreTyped (s ∷ []) (after_all (take i ss) [])) = typed_joined (take i ss) (s ∷ []) [] in (
      λ h. (let k : HasTyping (take i ss) × AreTyped (s ∷ []) (after_all (take i ss) []) = one.0 (subst HasTyping next h) in (k.0, k.1.0)),
      λ h. subst HasTyping (sym next) (one.1 (h.0, (h.1, tt))),
    )
