-- The run of a script with a typing isn't stuck, over streams whose yields aren't.
use Rattle.std.proofs.Common.{◌≡◌, refl, sym, subst, ◌∙◌, Bool, true, false, ℕ, ◌-◌, map, List, [], ◌∷◌, Some, IsTrue}
use Rattle.std.specs.Prelude.{if◌then◌else◌, codes}
use Rattle.std.specs.List.{AllByRecursion}
use Rattle.std.proofs.lemmas.Bool.{or_left, or_right}
use Rattle.std.specs.Cmp.Lexicographic.{same_text as equal_text}
use mathlib.Core.Bool.{false≢true}
use Rattle.fx_base.specs.Text.{same_text}
use Rattle.fx_base.specs.declared.fault.FaultKind.TheVariants.{DuplicateYield, NullArgument}
use Rattle.fx_base.specs.declared.place.Place.{Place}
use Rattle.fx_value.specs.Ends.{End, Gives, Faults, Stuck, More, cut}
use Rattle.fx_value.specs.declared.scalar.Scalar.{Scalar}
use Rattle.fx_value.specs.declared.scalar.Scalar.TheVariants as scalar
use Rattle.fx_ops.specs.Whole.{in_64_bits}
use Rattle.fx_types.specs.Term.{Label}
use Rattle.fx_types.specs.Ground.{Ground, GroundRow, g_done, g_stream, listed}
use Rattle.fx_types.proofs.Choices.{by_cases, chosen, passed}
use Rattle.fx_ast.specs.Free.{Need, name_of, pattern_at, free, is_named, unless}
use Rattle.fx_ast.specs.Tree.{Tree, StatementForm, import, assign, task, show, StatementTree}
use Rattle.fx_meaning.specs.declared.package.Package.{Package}
use Rattle.fx_meaning.specs.declared.package.Package.TheVariants as p
use Rattle.fx_meaning.specs.declared.setting.Setting.{Setting}
use Rattle.fx_meaning.specs.Ends.{fault_at}
use Rattle.fx_meaning.specs.Natives.{is_name}
use Rattle.fx_meaning.specs.Meaning.{Tests, meaning, means, nested}
use Rattle.fx_meaning.specs.Native.{path_of}
use Rattle.fx_meaning.specs.Value.{Val, in_package, stream, shown, Slots, no_slots, push, Stream}
use Rattle.fx_infer.specs.Environment.{Env, assigned, imported, HasType}
use Rattle.fx_infer.specs.Script.{after, import_name, AreTyped, HasTyping, KeepsRules}
use Rattle.fx_build.specs.Bound.{defined}
use Rattle.fx_build.specs.Fit.{fits, keeps, stream_fits}
use Rattle.fx_build.specs.Run.{Run, ended, gives, go_on, shows, imported_as, package_among, script_run, shown_value, statement_run, statements_run, yielded, yielded_under}
use Rattle.fx_build.specs.Safe.{IsSafe}
use Rattle.fx_build.specs.Sound.{FirstFits, FitsAll, IsSettingOf, RunFits, ShowsSafely, StatementFits, ValuesFit, YieldFits, needed, needed_by}
use Rattle.fx_build.proofs.Entered.{MetBy, defined_safe, push_met}
use Rattle.fx_build.proofs.SafeLaws.{safe_cut, safe_every, safe_later}
use Rattle.fx_build.proofs.Soundness.{nested_trees}

-- ---- ends

safe_both : {A : Type 0} (P Q : A → Type 0) (e : End A) → IsSafe P e → IsSafe Q e → IsSafe (λ v. P v × Q v) e
safe_both P Q (Gives v t) h k = (h, k)
safe_both P Q (Faults fault t) h k = tt
safe_both P Q Stuck h k = h
safe_both P Q More h k = tt

-- where the run ends before a statement, there are no values of what follows
none_fit : (ss : List StatementTree) (env : Env) → ValuesFit ss env []
none_fit [] env = refl
none_fit (s ∷ ss) env = first_none s.form (none_fit ss (after s.form env))
  where
    first_none : (form : StatementForm) → ValuesFit ss (after s.form env) [] → StatementFits form env (ValuesFit ss (after s.form env)) []
    first_none (assign x e) h = tt
    first_none (show e) h = tt
    first_none (import alias path) h = h
    first_none (task e) h = h

module _ {T : Type 0} (Fit : GroundRow → T → Type 0) where
  -- what is said of a run, of which the values are as Values says
  abbrev pub Is : (List Val → Type 0) → Run T → Type 0
  Is Values run = IsSafe (λ u. Unit {0}) run.end × Values run.values × AllByRecursion (YieldFits Fit) run.yields

  goes_on : {A : Type 0} (P : A → Type 0) (Values : List Val → Type 0) (limit : ℕ) (e : End A) (next : A → ℕ → Run T) → IsSafe P e → Values []
      → ((v : A) (left : ℕ) → P v → Is Values (next v left)) → Is Values (go_on limit e next)
  goes_on P Values limit (Gives v t) next h none k =
      let rest = k v (limit - t) h in (safe_later (λ u. Unit {0}) t (next v (limit - t)).end rest.0, rest.1, rest.2)
  goes_on P Values limit (Faults fault t) next h none k = (tt, none, tt)
  goes_on P Values limit Stuck next h none k = absurd h
  goes_on P Values limit More next h none k = (tt, none, tt)

-- each path has its package
package_found : (xs : List Package) (path : Label) → listed path (map path_of xs) ≡ true → (x : Package) × (package_among path xs ≡ Some x) × (path_of x ≡ path)
package_found [] path h = absurd (false≢true h)
package_found (x ∷ xs) path h =
    by_cases (same_text path (path_of x))
    (λ e. (x, chosen (same_text path (path_of x)) (Some x) (package_among path xs) e, sym (equal_text path (path_of x) (sym e))))
    (λ e.
    (let k = package_found xs path (sym (passed (same_text path (path_of x)) true (listed path (map path_of xs)) e) ∙ h) in
    (k.0, passed (same_text path (path_of x)) (Some x) (package_among path xs) e ∙ k.1, k.2)))

module _ {T : Type 0} (Fit : GroundRow → T → Type 0) (test : Tests) (setting : Setting) (moment : IsTrue (in_64_bits setting.moment)) (tables : Stream → ℕ → End T)
    (shows_safely : ShowsSafely Fit tables) where
  either_is : (Values : List Val → Type 0) (c : Bool) (a b : Run T) → Is Fit Values a → Is Fit Values b → Is Fit Values (if c then a else b)
  either_is Values true a b h k = h
  either_is Values false a b h k = k

  -- its tables are so for each row of types that the stream fits
  all_rows : (call : Stream) (r : GroundRow) (limit : ℕ) → stream_fits call (g_stream r)
      → IsSafe (λ made. (q : GroundRow) → stream_fits call (g_stream q) → Fit q made) (cut limit (tables call limit))
  all_rows call r limit fit =
      safe_every (λ q. stream_fits call (g_stream q)) Fit (cut limit (tables call limit)) (λ q fit. safe_cut (Fit q) limit (tables call limit) (shows_safely call q limit fit)) r fit

  yield_is : (Values : List Val → Type 0) (place : Place) (name : Label) (call : Stream) (r : GroundRow) (earlier : List Label) (limit : ℕ) (next : List Label → ℕ → Run T) → Values []
      → stream_fits call (g_stream r) → ((names : List Label) (left : ℕ) → Is Fit Values (next names left)) → Is Fit Values (yielded test setting tables place name call earlier limit next)
  yield_is Values place name call r earlier limit next none fit rest =
      either_is Values (listed name earlier) (ended (Faults (fault_at place DuplicateYield) 0))
      (go_on limit (cut limit (tables call limit)) (λ made left. shows (record { name = name; call = call; tables = made }) (next (name ∷ earlier) left))) (tt, none, tt)
      (goes_on Fit (λ made. (q : GroundRow) → stream_fits call (g_stream q) → Fit q made) Values limit (cut limit (tables call limit))
      (λ made left. shows (record { name = name; call = call; tables = made }) (next (name ∷ earlier) left)) (all_rows call r limit fit) none
      (λ made left h. let k = rest (name ∷ earlier) left in (k.0, k.1, (((r, fit), h), k.2))))

  yield_under_is : (Values : List Val → Type 0) (place at : Place) (name : Scalar) (call : Stream) (r : GroundRow) (earlier : List Label) (limit : ℕ) (next : List Label → ℕ → Run T) → Values []
      → IsTrue (is_name name) → stream_fits call (g_stream r) → ((names : List Label) (left : ℕ) → Is Fit Values (next names left))
      → Is Fit Values (yielded_under test setting tables place name at call earlier limit next)
  yield_under_is Values place at (scalar.Text name) call r earlier limit next none is fit rest = yield_is Values place name call r earlier limit next none fit rest
  yield_under_is Values place at scalar.Null call r earlier limit next none is fit rest =
      goes_on Fit (Fit r) Values limit (cut limit (tables call limit)) (λ made left. ended (Faults (fault_at at NullArgument) 0))
      (safe_cut (Fit r) limit (tables call limit) (shows_safely call r limit fit)) none (λ made left h. (tt, none, tt))
  yield_under_is Values place at _ call r earlier limit next none is fit rest = absurd (false≢true is)

  shown_is : (Values : List Val → Type 0) (place : Place) (v : Val) (t : Ground) (earlier : List Label) (limit : ℕ) (next : List Label → ℕ → Run T) → Values [] → fits v t
      → ((names : List Label) (left : ℕ) → Is Fit Values (next names left)) → Is Fit Values (shown_value test setting tables place v earlier limit next)
  shown_is Values place (shown name at call) g_done earlier limit next none fit rest = yield_under_is Values place at name call fit.1.0 earlier limit next none fit.0 fit.1.1 rest
  shown_is Values place (shown name at call) _ earlier limit next none fit rest = absurd fit
  shown_is Values place (stream call) (g_stream r) earlier limit next none fit rest = yield_is Values place (codes "_result") call r earlier limit next none fit rest
  shown_is Values place (stream call) _ earlier limit next none fit rest = absurd fit
  shown_is Values place _ t earlier limit next none fit rest = rest earlier limit

  trees : (limit : ℕ) (env : Env) (slots : Slots) (e : Tree) (t : Ground) → MetBy setting env slots (free e) → HasType env e t → IsSafe (λ v. fits v t) (means test (nested test limit) setting e slots)
  trees limit = nested_trees test limit setting moment

  every_type : (limit : ℕ) (env : Env) (slots : Slots) (e : Tree) (t : Ground) → MetBy setting env slots (free e) → HasType env e t → IsSafe (FitsAll env e) (means test (nested test limit) setting e slots)
  every_type limit env slots e t met h =
      safe_every (HasType env e) (λ u v. fits v u) (means test (nested test limit) setting e slots) (λ u k. trees limit env slots e u met k) t h

  -- a statement that keeps the rules
  statement_is : (place : Place) (form : StatementForm) (ss : List StatementTree) (env : Env) (slots : Slots) (earlier : List Label) (limit : ℕ) (later : Need → Bool)
      (next : Slots → List Label → ℕ → Run T) → KeepsRules form env → MetBy setting env slots (needed_by form later)
      → ((out : Slots) (names : List Label) (left : ℕ) → MetBy setting (after form env) out later → Is Fit (ValuesFit ss (after form env)) (next out names left))
      → Is Fit (StatementFits form env (ValuesFit ss (after form env))) (statement_run test setting tables place form slots earlier limit next)
  statement_is place (import alias path) ss env slots earlier limit later next h met rest =
      let k = package_found (p.Array ∷ p.Date ∷ p.Join ∷ p.Series ∷ p.Strings ∷ []) path h.0 in
      let x = import_name alias path in
      subst (λ o. Is Fit (ValuesFit ss (imported x path ∷ env)) (imported_as test setting tables x o slots earlier limit next)) (sym k.1)
      (rest (push slots x (in_package k.0)) earlier limit (push_met setting env slots (imported x path) (in_package k.0) later (k.0, k.2, refl) met))
  statement_is place (assign x e) ss env slots earlier limit later next h met rest =
      let here = λ (n : Need) (k : free e n ≡ true). met n (or_left (free e n) (unless (is_named x n) (later n)) k) in
      goes_on Fit (λ v. keeps v (defined env e) × FitsAll env e v) (FirstFits env e (ValuesFit ss (assigned x e ∷ env))) limit (meaning test setting e slots limit)
      (λ v left. gives v (next (push slots x v) earlier left))
      (safe_cut (λ v. keeps v (defined env e) × FitsAll env e v) limit (means test (nested test limit) setting e slots)
      (safe_both (λ v. keeps v (defined env e)) (FitsAll env e) (means test (nested test limit) setting e slots)
      (defined_safe test (nested test limit) setting moment (trees limit) env slots e h.1.0 here h.1.1) (every_type limit env slots e h.1.0 here h.1.1)))
      tt
      (λ v left k. let m = rest (push slots x v) earlier left
      (push_met setting env slots (assigned x e) v later k.0 (λ n m. met n (or_right (free e n) (unless (is_named x n) (later n)) m))) in (m.0, (k.1, m.1), m.2))
  statement_is place (task e) ss env slots earlier limit later next h met rest = rest slots earlier limit met
  statement_is place (show e) ss env slots earlier limit later next h met rest =
      goes_on Fit (FitsAll env e) (FirstFits env e (ValuesFit ss env)) limit (meaning test setting e slots limit) (λ v left. gives v (shown_value test setting tables place v earlier left (next slots)))
      (safe_cut (FitsAll env e) limit (means test (nested test limit) setting e slots) (every_type limit env slots e h.0 (λ n k. met n (or_left (free e n) (later n) k)) h.1))
      tt
      (λ v left fit.
      let m = shown_is (ValuesFit ss env) place v h.0 earlier left (next slots) (none_fit ss env) (fit h.0 h.1)
      (λ names left. rest slots names left (λ n k. met n (or_right (free e n) (later n) k))) in
      (m.0, (fit, m.1), m.2))

  statements_are : (ss : List StatementTree) (env : Env) (slots : Slots) (earlier : List Label) (limit : ℕ) → AreTyped ss env → MetBy setting env slots (needed ss)
      → Is Fit (ValuesFit ss env) (statements_run test setting tables ss slots earlier limit)
  statements_are [] env slots earlier limit h met = (tt, refl, tt)
  statements_are (s ∷ ss) env slots earlier limit h met =
      statement_is s.place s.form ss env slots earlier limit (needed ss) (statements_run test setting tables ss) h.0 met
      (λ out names left k. statements_are ss (after s.form env) out names left h.1 k)

-- The run of a script with a typing isn't stuck under any limit, in a setting with its patterns. Each statement's value fits
-- every type that the typing gives it, and the tables of what it shows are as Fit says
pub script_safe : {T : Type 0} (Fit : GroundRow → T → Type 0) (test : Tests) (setting : Setting) (tables : Stream → ℕ → End T) (ss : List StatementTree) (limit : ℕ) → HasTyping ss
    → IsSettingOf setting ss → ShowsSafely Fit tables → RunFits Fit ss [] (script_run test setting tables ss limit)
script_safe Fit test setting tables ss limit h is shows_safely =
    let k = statements_are Fit test setting is.moment tables shows_safely ss [] no_slots [] limit h unbound_yet in
    record { end = k.0; values = k.1; yields = k.2 }
  where
    unbound_yet : MetBy setting [] no_slots (needed ss)
    unbound_yet (name_of x) k = tt
    unbound_yet (pattern_at place) k = is.patterns place k
