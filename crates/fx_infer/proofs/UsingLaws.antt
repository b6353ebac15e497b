-- A built-in's type with new numbers, and what is asked of them.
use Rattle.std.proofs.Common.{◌≡◌, ◌↔◌, refl, sym, ap, subst, ◌∙◌, ℕ, zero, suc, ◌+◌, ◌≤◌, ◌<◌, max, List, [], ◌∷◌, ◌++◌, take, length, get_or, arith}
use Rattle.std.proofs.lemmas.List.{take_more}
use Rattle.fx_types.specs.Agree.{Agree}
use Rattle.fx_types.specs.Ground.{Ground, GroundRow, g_fun, g_absent}
use Rattle.fx_types.specs.Instance.{Solution, ground, ground_labels}
use Rattle.fx_types.specs.Kinds.{IsAmong}
use Rattle.fx_types.specs.Numbers.{numbers, numbers_labels}
use Rattle.fx_types.specs.Raised.{raised, from}
use Rattle.fx_types.specs.Shape.{term}
use Rattle.fx_types.specs.Size.{IsType}
use Rattle.fx_types.specs.Term.{Label, bool, fun, no_pipe}
use Rattle.fx_types.proofs.AgreeLaws.{agree_term}
use Rattle.fx_types.proofs.Lists.{take_all}
use Rattle.fx_types.proofs.RaisedLaws.{ground_raised}
use Rattle.fx_schemes.specs.declared.builtin_type.BuiltinType.{BuiltinType}
use Rattle.fx_schemes.specs.declared.builtin_type.KindBound.{KindBound}
use Rattle.fx_schemes.specs.declared.list.Builtin.{Builtin}
use Rattle.fx_schemes.specs.Builtins.{IsLine}
use Rattle.fx_schemes.specs.Given.{Given}
use Rattle.fx_schemes.specs.Line.{Line}
use Rattle.fx_schemes.specs.Scheme.{Scheme, Keeps, IsSchemeOf, instance, numbers_bounds, shown}
use Rattle.fx_unify.specs.declared.bindings.Bindings.{Bindings}
use Rattle.fx_unify.specs.Solutions.{Solves, next_of}
use Rattle.fx_infer.specs.declared.lines.LineTy.{LineTy}
use Rattle.fx_infer.specs.Arguments.{IsTypeOrAbsent}
use Rattle.fx_infer.specs.Finds.{line_under}
use Rattle.fx_infer.specs.Infers.{Infers, HasNone}
use Rattle.fx_infer.specs.Lists.{labels_in, AreRaised}
use Rattle.fx_infer.specs.Uses.{IsUse, IsTypedLine}
use Rattle.fx_infer.proofs.InfersLaws.{seen_as}
use Rattle.fx_infer.proofs.UseLaws.{use_asked}

-- bounds, one after another

kinds_last : (s : Solution) (bs : List KindBound) (b : KindBound) → Keeps s (bs ++ b ∷ []) ↔ (Keeps s bs × IsAmong b.kinds b.span (s.type_of b.var))
kinds_last s [] b = (λ h. (tt, h.0), λ h. (h.1, tt))
kinds_last s (c ∷ bs) b = (λ h. (let k : Keeps s bs × IsAmong b.kinds b.span (s.type_of b.var) = (kinds_last s bs b).0 h.1 in ((h.0, k.0), k.1)), λ h. (h.0.0, (kinds_last s bs b).1 (h.0.1, h.1)))

pub bound_number : (bs : List KindBound) (i : ℕ) (b : KindBound) → i < length bs → b ≡ get_or bs i b → b.var + 1 ≤ numbers_bounds bs
bound_number [] i b lt at = absurd (omega arith)
bound_number (c ∷ bs) zero b lt at = let same : b.var ≡ c.var = ap (λ d. d.var) at in omega arith
bound_number (c ∷ bs) (suc i) b lt at = let le : b.var + 1 ≤ numbers_bounds bs = bound_number bs i b (omega arith) at in omega arith

pub bound_step : (m : ℕ) (old asked new : Bindings) (bs : List KindBound) (i : ℕ) (b : KindBound) (n : ℕ) → i < length bs → b ≡ get_or bs i b → n ≡ b.var + m
    → ((s : Solution) → Solves s asked ↔ (Solves s old × Keeps (from m s) (take i bs))) → ((s : Solution) → Solves s new ↔ (Solves s asked × IsAmong b.kinds b.span (s.type_of n)))
    → (s : Solution) → Solves s new ↔ (Solves s old × Keeps (from m s) (take (i + 1) bs))
bound_step m old asked new bs i b n lt at number before one s =
    let next : take (i + 1) bs ≡ take i bs ++ b ∷ [] = take_more bs i b lt ∙ ap (λ d. take i bs ++ d ∷ []) (sym at) in (
      λ h. (let k : Solves s asked × IsAmong b.kinds b.span (s.type_of n) = (one s).0 h in
          let was : Solves s old × Keeps (from m s) (take i bs) = (before s).0 k.0 in
          (was.0, subst (Keeps (from m s)) (sym next) ((kinds_last (from m s) (take i bs) b).1 (was.1, subst (λ j. IsAmong b.kinds b.span (s.type_of j)) number k.1)))),
      λ h. (let k : Keeps (from m s) (take i bs) × IsAmong b.kinds b.span (s.type_of (b.var + m)) = (kinds_last (from m s) (take i bs) b).0 (subst (Keeps (from m s)) next h.1) in
          (one s).1 ((before s).1 (h.0, k.0), subst (λ j. IsAmong b.kinds b.span (s.type_of j)) (sym number) k.1)),
    )

pub all_bounds : (m : ℕ) (old asked : Bindings) (bs : List KindBound) (i : ℕ) → length bs ≤ i → ((s : Solution) → Solves s asked ↔ (Solves s old × Keeps (from m s) (take i bs)))
    → (s : Solution) → Solves s asked ↔ (Solves s old × Keeps (from m s) bs)
all_bounds m old asked bs i le h = subst (λ d. (s : Solution) → Solves s asked ↔ (Solves s old × Keeps (from m s) d)) (take_all bs i le) h

-- what a function requires
abbrev required_in : Ground → GroundRow
required_in (g_fun needs input t) = needs
required_in _ = λ l. g_absent

-- the whole scheme
module _ (x : BuiltinType) (old typed listed new : Bindings) (m : ℕ) (y : LineTy) (first : m ≡ next_of old) (labels : y.labels ≡ x.labels) (pipe : y.pipe_label ≡ x.pipe_label)
    (type : term y.ty ≡ raised m (term x.ty)) (fits : (s : Solution) → Solves s typed ↔ (Solves s old × IsType (ground s (term y.ty)))) (grown : next_of typed ≡ max (next_of old) (numbers (term y.ty)))
    (entries : AreRaised m typed x.optional listed y.optional) (bounded : (s : Solution) → Solves s new ↔ (Solves s listed × Keeps (from m s) x.kinds)) (le : next_of listed ≤ next_of new) where
  becomes : (s : Solution) → ground s (term y.ty) ≡ ground (from m s) (term x.ty)
  becomes s = ap (ground s) type ∙ ground_raised m s (term x.ty)

  same : (s : Solution) → line_under s y ≡ instance (from m s) (shown x)
  same s = λ i. record { labels = labels i; type = becomes s i; optional = λ l. entries.same s l i; pipe_label = pipe i }

  asked : (s : Solution) → Solves s new ↔ (Solves s old × (Keeps (from m s) x.kinds × IsType (ground (from m s) (term x.ty)) × ((l : Label) → IsTypeOrAbsent (ground_labels (from m s) (labels_in x.optional) l))))
  asked s = (
    λ h. (let a : Solves s listed × Keeps (from m s) x.kinds = (bounded s).0 h in
        let b : Solves s typed × ((l : Label) → IsTypeOrAbsent (ground_labels s (labels_in y.optional) l)) = (entries.asked s).0 a.0 in
        let c : Solves s old × IsType (ground s (term y.ty)) = (fits s).0 b.0 in
        (c.0, (a.1, subst IsType (becomes s) c.1, λ l. subst IsTypeOrAbsent (entries.same s l) (b.1 l)))),
    λ h. (bounded s).1 ((entries.asked s).1 ((fits s).1 (h.0, subst IsType (sym (becomes s)) h.1.1), λ l. subst IsTypeOrAbsent (sym (entries.same s l)) (h.1.2 l)), h.1.0),
  )

  below : (s q : Solution) → Agree (next_of new) s q → instance (from m s) (shown x) ≡ instance (from m q) (shown x)
  below s q agree =
      let small : next_of typed ≤ next_of listed = entries.more in
      let numbered : numbers_labels (labels_in y.optional) ≤ next_of listed = entries.below in
      let types : ground s (term y.ty) ≡ ground q (term y.ty) = agree_term (next_of new) s q agree (term y.ty) (omega arith) in
      let optionals : (l : Label) → ground_labels s (labels_in y.optional) l ≡ ground_labels q (labels_in y.optional) l =
      λ l. ap (λ g. required_in g l) (agree_term (next_of new) s q agree (fun (labels_in y.optional) no_pipe bool) (omega arith)) in
      sym (same s) ∙ (λ i. record { labels = y.labels; type = types i; optional = λ l. optionals l i; pipe_label = y.pipe_label }) ∙ same q

  more : next_of old ≤ next_of new
  more = let small : next_of typed ≤ next_of listed = entries.more in omega arith

  pub line_used : Infers (λ s L. IsUse (shown x) L) old new (λ s. line_under s y)
  line_used =
      seen_line (use_asked (shown x) old new m first more below asked)
    where
      seen_line : Infers (λ s L. IsUse (shown x) L) old new (λ s. instance (from m s) (shown x)) → Infers (λ s L. IsUse (shown x) L) old new (λ s. line_under s y)
      seen_line h = subst (Infers (λ s L. IsUse (shown x) L) old new) (λ i s. sym (same s) i) h

-- what a call gives

pub line_found : (b : Builtin) (w : Given) (x : Scheme) (old new : Bindings) (y : LineTy) → IsSchemeOf (IsLine b w) x → Infers (λ s L. IsUse x L) old new (λ s. line_under s y)
    → Infers (λ s L. IsTypedLine b w L) old new (λ s. line_under s y)
line_found b w x old new y is h =
    seen_as (λ s L. IsUse x L) (λ s L. IsTypedLine b w L) (λ s L. L) old new (λ s. line_under s y) h (λ s q agree L. refl) (λ s L u. ((is.lines L).0 u.0, (u.1, u.2))) (λ s L u. (L, ((is.lines L).1 u.0, u.1.0, u.1.1), refl))

pub no_line : (b : Builtin) (w : Given) (old : Bindings) → ((L : Line) → IsLine b w L → ⊥) → HasNone (λ s L. IsTypedLine b w L) old
no_line b w old none = λ s h within L u. none L u.0
