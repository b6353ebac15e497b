-- What a name answers in the environment of the names of a scope.
use Rattle.std.proofs.Common.{◌≡◌, refl, sym, ap, ◌∙◌, ℕ, zero, suc, ◌+◌, ◌<◌, ◌≤◌, Bool, true, false, List, [], ◌∷◌, ◌++◌, take, drop, length, get_or, arith}
use mathlib.Core.Bool.{true≢false}
use Rattle.fx_base.specs.Text.{same_text}
use Rattle.fx_types.specs.Ground.{listed}
use Rattle.fx_types.specs.Instance.{Solution}
use Rattle.fx_types.specs.Term.{Label}
use Rattle.fx_types.proofs.AgreeLaws.{agree_less}
use Rattle.fx_types.proofs.Choices.{neither}
use Rattle.fx_infer.specs.declared.scope.Bound as bounds
use Rattle.fx_infer.specs.declared.scope.Bound.TheVariants as bound
use Rattle.fx_infer.specs.declared.scope.Name.{Name}
use Rattle.fx_infer.specs.Ask.{Answers, either, of_type}
use Rattle.fx_infer.specs.Environment.{Entry, param, assigned, imported, Env, scope, label_of, of_package}
use Rattle.fx_infer.specs.Names.{entry_by, entry_under, onto, env_under, NamesBelow, labels_among}
use Rattle.fx_infer.specs.Native.{natives}
use Rattle.fx_infer.specs.Typing.{has}

-- what an entry answers in the environment behind it
abbrev pub answers_of : Entry → Env → Answers
answers_of (param x u) env = of_type u
answers_of (assigned x e) env = has e (scope env)
answers_of (imported x path) env = of_package path

either_yes : (c : Bool) (A B : Type 0) → c ≡ true → either c A B ≡ A
either_yes true A B e = refl
either_yes false A B e = absurd (true≢false (sym e))

either_not : (c : Bool) (A B : Type 0) → c ≡ false → either c A B ≡ B
either_not true A B e = absurd (true≢false e)
either_not false A B e = refl

at_entry : (x : Label) (e : Entry) (env : Env) → same_text x (label_of e) ≡ true → scope (e ∷ env) x ≡ answers_of e env
at_entry x (param y u) env h = λ i q. either_yes (same_text x y) (of_type u q) (scope env x q) h i
at_entry x (assigned y e) env h = λ i q. either_yes (same_text x y) (has e (scope env) q) (scope env x q) h i
at_entry x (imported y path) env h = λ i q. either_yes (same_text x y) (of_package path q) (scope env x q) h i

past_entry : (x : Label) (e : Entry) (env : Env) → same_text x (label_of e) ≡ false → scope (e ∷ env) x ≡ scope env x
past_entry x (param y u) env h = λ i q. either_not (same_text x y) (of_type u q) (scope env x q) h i
past_entry x (assigned y e) env h = λ i q. either_not (same_text x y) (has e (scope env) q) (scope env x q) h i
past_entry x (imported y path) env h = λ i q. either_not (same_text x y) (of_package path q) (scope env x q) h i

pub label_by : (s : Solution) (x : Label) (b : bounds.Bound) → label_of (entry_by s x b) ≡ x
label_by s x (bound.Param n) = refl
label_by s x (bound.Assigned e) = refl
label_by s x (bound.Imported path) = refl

past_all : (s : Solution) (x : Label) (ns : List Name) (env : Env) → listed x (labels_among ns) ≡ false → scope (onto s ns env) x ≡ scope env x
past_all s x [] env h = refl
past_all s x (n ∷ ns) env h =
    let k : (same_text x n.label.now ≡ false) × (listed x (labels_among ns) ≡ false) = neither (same_text x n.label.now) (listed x (labels_among ns)) h in
    past_all s x ns (entry_under s n ∷ env) k.1 ∙ past_entry x (entry_under s n) env (ap (same_text x) (label_by s n.label.now n.bound) ∙ k.0)

pub onto_at : (s : Solution) (ns : List Name) (i : ℕ) (n : Name) (env : Env) → i < length ns → n ≡ get_or ns i n → onto s ns env ≡ onto s (drop (suc i) ns) (entry_under s n ∷ onto s (take i ns) env)
onto_at s [] i n env lt at = absurd (omega arith)
onto_at s (m ∷ ns) zero n env lt at = ap (λ k. onto s ns (entry_under s k ∷ env)) (sym at)
onto_at s (m ∷ ns) (suc i) n env lt at = onto_at s ns i n (entry_under s m ∷ env) (omega arith) at

-- a name that is bound, and one that nothing binds

pub bound_answers : (s : Solution) (ns : List Name) (x : Label) (i : ℕ) (n : Name) → i < length ns → n ≡ get_or ns i n → same_text x n.label.now ≡ true → listed x (labels_among (drop (i + 1) ns)) ≡ false
    → scope (env_under s ns) x ≡ answers_of (entry_under s n) (env_under s (take i ns))
bound_answers s ns x i n lt at same off =
    let next : i + 1 ≡ suc i = omega arith in
    ap (λ env. scope env x) (onto_at s ns i n [] lt at) ∙ past_all s x (drop (suc i) ns) (entry_under s n ∷ env_under s (take i ns)) (ap (λ k. listed x (labels_among (drop k ns))) (sym next) ∙ off)
    ∙ at_entry x (entry_under s n) (env_under s (take i ns)) (ap (same_text x) (label_by s n.label.now n.bound) ∙ same)

pub free_answers : (s : Solution) (ns : List Name) (x : Label) → listed x (labels_among ns) ≡ false → scope (env_under s ns) x ≡ natives x
free_answers s ns x off = past_all s x ns [] off

-- one name more
pub onto_last : (s : Solution) (ns : List Name) (n : Name) (env : Env) → onto s (ns ++ n ∷ []) env ≡ entry_under s n ∷ onto s ns env
onto_last s [] n env = refl
onto_last s (m ∷ ns) n env = onto_last s ns n (entry_under s m ∷ env)

-- names that speak of low numbers alone
pub names_below : (n m : ℕ) (ns : List Name) → n ≤ m → NamesBelow n ns → NamesBelow m ns
names_below n m ns le below = λ s q agree. below s q (agree_less m n s q agree le)
