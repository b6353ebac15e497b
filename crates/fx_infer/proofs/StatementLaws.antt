-- Statements as code goes through them.
use Rattle.std.proofs.Common.{◌≡◌, ◌↔◌, refl, sym, ap, subst, ◌∙◌, ℕ, zero, suc, ◌+◌, ◌-◌, ◌<◌, Bool, true, false, List, [], ◌∷◌, ◌++◌, take, drop, length, map, get_or, Result, Ok, Err, IfOk, Option, None, Some, arith}
use Rattle.std.proofs.lemmas.List.{get_or-map, length-map, take_more}
use Rattle.std.specs.Borrow.{Bor}
use Rattle.std.specs.Prelude.{is_some}
use Rattle.fx_base.specs.Text.{same_text}
use Rattle.fx_types.specs.Agree.{Agree}
use Rattle.fx_types.specs.Ground.{Ground, g_int, g_absent, listed}
use Rattle.fx_types.specs.Instance.{Solution, ground}
use Rattle.fx_types.specs.Shape.{term}
use Rattle.fx_types.specs.Term.{Label, Term}
use Rattle.fx_types.proofs.Choices.{chosen, passed, either_also, neither, never}
use Rattle.fx_unify.specs.declared.bindings.Bindings.{Bindings}
use Rattle.fx_unify.specs.declared.fault.UnifyFault as faults
use Rattle.fx_unify.specs.declared.fault.UnifyFault.TheVariants as fault
use Rattle.fx_unify.specs.Solutions.{Solves, HasLeast, next_of}
use Rattle.fx_unify.specs.Work.{Within}
use Rattle.fx_generalize.specs.Solved as solved
use Rattle.fx_ast.specs.declared.expr.Expr.{Expr}
use Rattle.fx_ast.specs.declared.script.Statement.{Statement}
use Rattle.fx_ast.specs.Shape.{tree_of, statement_tree}
use Rattle.fx_ast.specs.Tree.{Tree, StatementTree, import, assign, show}
use Rattle.fx_infer.specs.declared.ask.Inferred.{Inferred}
use Rattle.fx_infer.specs.declared.scope.Bound.TheVariants as bound
use Rattle.fx_infer.specs.declared.scope.Name.{Name}
use Rattle.fx_infer.specs.declared.stop.Stop.{Stop}
use Rattle.fx_infer.specs.Environment.{Entry, assigned, imported, Env, HasType, IsTyped, label_of, names_of}
use Rattle.fx_infer.specs.Infers.{Infers, HasNone}
use Rattle.fx_infer.specs.Names.{entry_under, onto, env_under, NamesBelow, labels_among, IsNewest, TypeOf}
use Rattle.fx_infer.specs.Native.{packages}
use Rattle.fx_infer.specs.Script.{import_name, after, after_all, KeepsRules, HasTyping, IsFirstUntyped}
use Rattle.fx_infer.specs.Statements.{IsEnv, Settles, TellsTyped, Leads}
use Rattle.fx_infer.proofs.ScopeLaws.{label_by, onto_at, onto_last}
use Rattle.fx_infer.proofs.ScriptLaws.{after_joined, typed_next}

-- names whose environment is the same whatever variables stand for

pub env_below : (n : ℕ) (env : Env) (ns : List Name) → IsEnv env ns → NamesBelow n ns
env_below n env ns is s q agree = is s ∙ sym (is q)

pub env_more : (env : Env) (e : Entry) (ns ms : List Name) (n : Name) → IsEnv env ns → ms ≡ ns ++ n ∷ [] → ((s : Solution) → entry_under s n ≡ e) → IsEnv (e ∷ env) ms
env_more env e ns ms n is more entry s = ap (env_under s) more ∙ onto_last s ns n [] ∙ (λ i. entry s i ∷ is s i)

some_solution : Solution
some_solution = record { type_of = λ n. g_int; field_of = λ n. g_absent; row_of = λ n l. g_absent }

-- which names are taken

listed_more : (s : Solution) (x : Label) (ns : List Name) (env : Env) → listed x (names_of env) ≡ true → listed x (names_of (onto s ns env)) ≡ true
listed_more s x [] env h = h
listed_more s x (n ∷ ns) env h = listed_more s x ns (entry_under s n ∷ env) (either_also (same_text x (label_of (entry_under s n))) (listed x (names_of env)) h)

listed_none : (s : Solution) (x : Label) (ns : List Name) (env : Env) → listed x (labels_among ns) ≡ false → listed x (names_of env) ≡ false → listed x (names_of (onto s ns env)) ≡ false
listed_none s x [] env off h = h
listed_none s x (n ∷ ns) env off h =
    let k : (same_text x n.label.now ≡ false) × (listed x (labels_among ns) ≡ false) = neither (same_text x n.label.now) (listed x (labels_among ns)) off in
    listed_none s x ns (entry_under s n ∷ env) k.1 (passed (same_text x (label_of (entry_under s n))) true (listed x (names_of env)) (ap (same_text x) (label_by s n.label.now n.bound) ∙ k.0) ∙ h)

item_at : {A : Type 0} (xs : List A) (i : ℕ) → i < length xs → (x : A) × (x ≡ get_or xs i x)
item_at [] i lt = absurd (omega arith)
item_at (x ∷ xs) zero lt = (x, refl)
item_at (x ∷ xs) (suc i) lt = item_at xs i (omega arith)

pub not_taken : (env : Env) (ns : List Name) (x : Label) → IsEnv env ns → IsNewest x ns None → listed x (names_of env) ≡ false
not_taken env ns x is off = ap (λ v. listed x (names_of v)) (sym (is some_solution)) ∙ listed_none some_solution x ns [] off refl

pub taken : (env : Env) (ns : List Name) (x : Label) (i : ℕ) → IsEnv env ns → IsNewest x ns (Some i) → listed x (names_of env) ≡ true
taken env ns x i is newest =
    let s : Solution = some_solution in
    let n : (n : Name) × (n ≡ get_or ns i n) = item_at ns i newest.0 in
    let same : same_text x (label_of (entry_under s n.0)) ≡ true = ap (same_text x) (label_by s n.0.label.now n.0.bound) ∙ newest.1 n.0 n.1 in
    let behind : Env = onto s (take i ns) [] in
    ap (λ v. listed x (names_of v)) (sym (is s) ∙ onto_at s ns i n.0 [] newest.0 n.1)
    ∙ listed_more s x (drop (suc i) ns) (entry_under s n.0 ∷ behind) (chosen (same_text x (label_of (entry_under s n.0))) true (listed x (names_of behind)) same)

-- an expression whose types were inferred from bindings of nothing
module _ (env : Env) (ns : List Name) (e : Expr) (old : Bindings) (is : IsEnv env ns) (least : HasLeast old) where
  among : (s : Solution) (t : Ground) → HasType env (tree_of e) t → TypeOf ns e s t
  among s t h = subst (λ v. HasType v (tree_of e) t) (sym (is s)) h

  pub none_inferred : HasNone (TypeOf ns e) old → IsTyped env (tree_of e) → ⊥
  none_inferred none h = none least.0 least.1 least.2 h.0 (among least.0 h.0 h.1)

  pub none_left : (mid : Bindings) (f : Solution → Ground) → Infers (TypeOf ns e) old mid f → ((s : Solution) → Solves s mid → Within s → ⊥) → IsTyped env (tree_of e) → ⊥
  none_left mid f one refuses h =
      let a : (q : Solution) × Agree (next_of old) least.0 q × Solves q mid × Within q × (f q ≡ h.0) = one.complete least.0 least.1 least.2 h.0 (among least.0 h.0 h.1) in
      refuses a.0 a.2 a.3

  pub types_left : (mid new : Bindings) (t : Term) → Infers (TypeOf ns e) old mid (λ s. ground s t) → ((s : Solution) → Solves s new ↔ Solves s mid) → (g : Ground) → solved.HasType new t g ↔ HasType env (tree_of e) g
  types_left mid new t one same g = (
    λ h. subst (HasType env (tree_of e)) h.2 (subst (λ v. HasType v (tree_of e) (ground h.0 t)) (is h.0) (one.sound h.0 ((same h.0).0 h.1))),
    λ h.
        (let a : (q : Solution) × Agree (next_of old) least.0 q × Solves q mid × Within q × (ground q t ≡ g) = one.complete least.0 least.1 least.2 g (among least.0 g h) in
        (a.0, (same a.0).1 a.2, a.4)),
  )

-- what has a least solution has a type
pub some_type : (env : Env) (e : Expr) (b : Bindings) (t : Term) → HasLeast b → ((g : Ground) → solved.HasType b t g ↔ HasType env (tree_of e) g) → IsTyped env (tree_of e)
some_type env e b t least h = (ground least.0 t, (h (ground least.0 t)).0 (least.0, least.1, refl))

pub tells : (env : Env) (e : Expr) (o : Option Inferred) (b : Bool) → b ≡ is_some o → Settles env (tree_of e) o → TellsTyped env (tree_of e) b
tells env e None b is h = subst (TellsTyped env (tree_of e)) (sym is) h
tells env e (Some r) b is h = subst (TellsTyped env (tree_of e)) (sym is) (some_type env e r.bindings (term r.ty) h.0 h.1)

-- statements one after another, of which i keep the rules
module _ (ss : List Statement) (i : ℕ) (s : Statement) (lt : i < length ss) (at : s ≡ get_or ss i s) where
  abbrev pub trees : List StatementTree
  trees = map statement_tree ss

  among_trees : i < length trees
  among_trees = subst (λ n. i < n) (sym (length-map ss statement_tree)) lt

  tree_at : statement_tree s ≡ get_or trees i (statement_tree s)
  tree_at = ap statement_tree at ∙ sym (get_or-map statement_tree ss i s (statement_tree s) lt)

  abbrev pub before : Env
  before = after_all (take i trees) []

  pub one_typed : HasTyping (take i trees) → KeepsRules (statement_tree s).form before → HasTyping (take (i + 1) trees)
  one_typed typed keeps = (typed_next trees i (statement_tree s) among_trees tree_at).1 (typed, keeps)

  pub one_after : after_all (take (i + 1) trees) [] ≡ after (statement_tree s).form before
  one_after =
      ap (λ l. after_all l []) (take_more trees i (statement_tree s) among_trees ∙ ap (λ d. take i trees ++ d ∷ []) (sym tree_at)) ∙ after_joined (take i trees) (statement_tree s ∷ []) []

  pub one_untyped : (n : ℕ) → n ≡ i + 1 → HasTyping (take i trees) → (KeepsRules (statement_tree s).form before → ⊥) → IsFirstUntyped n trees
  one_untyped n is typed breaks = (
    omega arith,
    (let le : i < length trees = among_trees in omega arith),
    subst (λ k. HasTyping (take k trees)) (let k : i ≡ n - 1 = omega arith in k) typed,
    λ h. breaks ((typed_next trees i (statement_tree s) among_trees tree_at).0 (subst (λ k. HasTyping (take k trees)) is h)).1,
  )

-- what is told of a refusal
pub untyped_left : (env : Env) (e : Expr) (r : Result (Option Inferred) Stop) (f : faults.UnifyFault) → IfOk r (λ o. (o ≡ None) × (f ≡ fault.Clash)) → (f ≡ fault.Clash → IsTyped env (tree_of e) → ⊥) → IfOk r (Settles env (tree_of e))
untyped_left env e (Ok o) f h told = subst (Settles env (tree_of e)) (sym h.0) (told h.1)
untyped_left env e (Err x) f h told = tt

-- the names behind statements

pub shown_led : (env : Env) (ns : List Name) (e : Tree) → IsEnv env ns → IsTyped env e → Leads env (show e) (Some ns)
shown_led env ns e is typed = (typed, is)

pub import_led : (env : Env) (ns ms : List Name) (l p : Bor (List ℕ)) (alias : Option Label) → IsEnv env ns → ms ≡ ns ++ record { label = l; bound = bound.Imported p } ∷ [] → l.now ≡ import_name alias p.now → listed l.now (names_of env) ≡ false
    → listed p.now packages ≡ true → Leads env (import alias p.now) (Some ms)
import_led env ns ms l p alias is more named free known = (
  (known, ap (λ x. listed x (names_of env)) (sym named) ∙ free),
  env_more env (imported (import_name alias p.now) p.now) ns ms (record { label = l; bound = bound.Imported p }) is more (λ s. ap (λ x. imported x p.now) named),
)

pub import_taken : (env : Env) (l path : Label) (alias : Option Label) → l ≡ import_name alias path → listed l (names_of env) ≡ true → KeepsRules (import alias path) env → ⊥
import_taken env l path alias named taken h = never (listed l (names_of env)) taken (ap (λ x. listed x (names_of env)) named ∙ h.1)

pub import_unknown : (env : Env) (path : Label) (alias : Option Label) → listed path packages ≡ false → KeepsRules (import alias path) env → ⊥
import_unknown env path alias unknown h = never (listed path packages) h.0 unknown

pub assign_led : (env : Env) (ns ms : List Name) (l : Bor (List ℕ)) (e : Bor Expr) → IsEnv env ns → ms ≡ ns ++ record { label = l; bound = bound.Assigned e } ∷ [] → listed l.now (names_of env) ≡ false → IsTyped env (tree_of e.now)
    → Leads env (assign l.now (tree_of e.now)) (Some ms)
assign_led env ns ms l e is more free typed = (
  (free, typed),
  env_more env (assigned l.now (tree_of e.now)) ns ms (record { label = l; bound = bound.Assigned e }) is more (λ s. refl),
)

pub assign_taken : (env : Env) (l : Label) (e : Tree) → listed l (names_of env) ≡ true → KeepsRules (assign l e) env → ⊥
assign_taken env l e taken h = never (listed l (names_of env)) taken h.0
