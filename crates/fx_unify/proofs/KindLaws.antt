-- Sets of kinds.
use Rattle.std.proofs.Common.{◌≡◌, ◌↔◌, ◌⊎◌, inl, inr, refl, sym, ap, subst, ◌∙◌, ℕ, ◌+◌, ◌<◌, ◌≤◌, Bool, true, false, List, [], ◌∷◌, ◌++◌, take, get_or, length}
use Rattle.std.proofs.lemmas.List.{take_more}
use mathlib.Core.Bool.{true≢false}
use Rattle.fx_value.specs.declared.scalar.Kind as kinds
use Rattle.fx_value.specs.declared.scalar.Kind.TheVariants as kind
use Rattle.fx_types.specs.Ground.{Ground, g_bool, g_int, g_text, g_time, g_span, g_pattern, g_done, g_array, g_fun, g_rec, g_stream}
use Rattle.fx_unify.specs.declared.sorts.Sorts as sorts
use Rattle.fx_types.specs.Kinds.{of_kind, IsAmong}
use Rattle.fx_unify.specs.Sorts.{allows}
use Rattle.fx_types.proofs.Lists.{take_all}
use Rattle.fx_types.proofs.Choices.{by_cases}

-- one kind more: the type of that kind, or as before
abbrev More : sorts.Sorts → sorts.Sorts → Ground → Ground → Type 0
More old new x g = (allows new g ≡ true) ↔ ((allows old g ≡ true) ⊎ (g ≡ x))

apart : (old new : sorts.Sorts) (x g : Ground) → allows new g ≡ allows old g → (g ≡ x → ⊥) → More old new x g
apart old new x g same other = (λ h. inl (sym same ∙ h), λ h. back h)
  where
    back : (allows old g ≡ true) ⊎ (g ≡ x) → allows new g ≡ true
    back (inl h) = same ∙ h
    back (inr e) = absurd (other e)

there : (old new : sorts.Sorts) (x g : Ground) → g ≡ x → allows new g ≡ true → More old new x g
there old new x g e h = (λ k. inr e, λ k. h)

pub with_bool : (k : sorts.Sorts) (g : Ground) → More k (record k { boolean = true }) g_bool g
with_bool k g_bool = there k (record k { boolean = true }) g_bool g_bool refl refl
with_bool k g_int = apart k (record k { boolean = true }) g_bool g_int refl (λ e. cc)
with_bool k g_text = apart k (record k { boolean = true }) g_bool g_text refl (λ e. cc)
with_bool k g_time = apart k (record k { boolean = true }) g_bool g_time refl (λ e. cc)
with_bool k g_span = apart k (record k { boolean = true }) g_bool g_span refl (λ e. cc)
with_bool k g_pattern = apart k (record k { boolean = true }) g_bool g_pattern refl (λ e. cc)
with_bool k g_done = apart k (record k { boolean = true }) g_bool g_done refl (λ e. cc)
with_bool k (g_array t) = apart k (record k { boolean = true }) g_bool (g_array t) refl (λ e. cc)
with_bool k (g_fun r p t) = apart k (record k { boolean = true }) g_bool (g_fun r p t) refl (λ e. cc)
with_bool k (g_rec r) = apart k (record k { boolean = true }) g_bool (g_rec r) refl (λ e. cc)
with_bool k (g_stream r) = apart k (record k { boolean = true }) g_bool (g_stream r) refl (λ e. cc)

pub with_int : (k : sorts.Sorts) (g : Ground) → More k (record k { integer = true }) g_int g
with_int k g_bool = apart k (record k { integer = true }) g_int g_bool refl (λ e. cc)
with_int k g_int = there k (record k { integer = true }) g_int g_int refl refl
with_int k g_text = apart k (record k { integer = true }) g_int g_text refl (λ e. cc)
with_int k g_time = apart k (record k { integer = true }) g_int g_time refl (λ e. cc)
with_int k g_span = apart k (record k { integer = true }) g_int g_span refl (λ e. cc)
with_int k g_pattern = apart k (record k { integer = true }) g_int g_pattern refl (λ e. cc)
with_int k g_done = apart k (record k { integer = true }) g_int g_done refl (λ e. cc)
with_int k (g_array t) = apart k (record k { integer = true }) g_int (g_array t) refl (λ e. cc)
with_int k (g_fun r p t) = apart k (record k { integer = true }) g_int (g_fun r p t) refl (λ e. cc)
with_int k (g_rec r) = apart k (record k { integer = true }) g_int (g_rec r) refl (λ e. cc)
with_int k (g_stream r) = apart k (record k { integer = true }) g_int (g_stream r) refl (λ e. cc)

pub with_text : (k : sorts.Sorts) (g : Ground) → More k (record k { text = true }) g_text g
with_text k g_bool = apart k (record k { text = true }) g_text g_bool refl (λ e. cc)
with_text k g_int = apart k (record k { text = true }) g_text g_int refl (λ e. cc)
with_text k g_text = there k (record k { text = true }) g_text g_text refl refl
with_text k g_time = apart k (record k { text = true }) g_text g_time refl (λ e. cc)
with_text k g_span = apart k (record k { text = true }) g_text g_span refl (λ e. cc)
with_text k g_pattern = apart k (record k { text = true }) g_text g_pattern refl (λ e. cc)
with_text k g_done = apart k (record k { text = true }) g_text g_done refl (λ e. cc)
with_text k (g_array t) = apart k (record k { text = true }) g_text (g_array t) refl (λ e. cc)
with_text k (g_fun r p t) = apart k (record k { text = true }) g_text (g_fun r p t) refl (λ e. cc)
with_text k (g_rec r) = apart k (record k { text = true }) g_text (g_rec r) refl (λ e. cc)
with_text k (g_stream r) = apart k (record k { text = true }) g_text (g_stream r) refl (λ e. cc)

pub with_time : (k : sorts.Sorts) (g : Ground) → More k (record k { time = true }) g_time g
with_time k g_bool = apart k (record k { time = true }) g_time g_bool refl (λ e. cc)
with_time k g_int = apart k (record k { time = true }) g_time g_int refl (λ e. cc)
with_time k g_text = apart k (record k { time = true }) g_time g_text refl (λ e. cc)
with_time k g_time = there k (record k { time = true }) g_time g_time refl refl
with_time k g_span = apart k (record k { time = true }) g_time g_span refl (λ e. cc)
with_time k g_pattern = apart k (record k { time = true }) g_time g_pattern refl (λ e. cc)
with_time k g_done = apart k (record k { time = true }) g_time g_done refl (λ e. cc)
with_time k (g_array t) = apart k (record k { time = true }) g_time (g_array t) refl (λ e. cc)
with_time k (g_fun r p t) = apart k (record k { time = true }) g_time (g_fun r p t) refl (λ e. cc)
with_time k (g_rec r) = apart k (record k { time = true }) g_time (g_rec r) refl (λ e. cc)
with_time k (g_stream r) = apart k (record k { time = true }) g_time (g_stream r) refl (λ e. cc)

-- only a duration, where it is one
pub from_none : (b : Bool) (k : sorts.Sorts) → k ≡ record { boolean = false; integer = false; text = false; time = false; span = b; other = false }
    → (g : Ground) → (allows k g ≡ true) ↔ IsAmong [] b g
from_none b k e g = subst (λ j. (allows j g ≡ true) ↔ IsAmong [] b g) (sym e) (start g)
  where
    none : (g : Ground) → (g ≡ g_span → ⊥) → allows (record { boolean = false; integer = false; text = false; time = false; span = b; other = false }) g ≡ false
        → (allows (record { boolean = false; integer = false; text = false; time = false; span = b; other = false }) g ≡ true) ↔ IsAmong [] b g
    none g other f = (λ h. absurd (true≢false (sym h ∙ f)), λ h. absurd (other h.1))

    start : (g : Ground) → (allows (record { boolean = false; integer = false; text = false; time = false; span = b; other = false }) g ≡ true) ↔ IsAmong [] b g
    start g_span = (λ h. (h, refl), λ h. h.0)
    start g_bool = none g_bool (λ e. cc) refl
    start g_int = none g_int (λ e. cc) refl
    start g_text = none g_text (λ e. cc) refl
    start g_time = none g_time (λ e. cc) refl
    start g_pattern = none g_pattern (λ e. cc) refl
    start g_done = none g_done (λ e. cc) refl
    start (g_array t) = none (g_array t) (λ e. cc) refl
    start (g_fun r p t) = none (g_fun r p t) (λ e. cc) refl
    start (g_rec r) = none (g_rec r) (λ e. cc) refl
    start (g_stream r) = none (g_stream r) (λ e. cc) refl

among_last : (ks : List kinds.Kind) (k : kinds.Kind) (b : Bool) (g : Ground) → IsAmong (ks ++ k ∷ []) b g ↔ (IsAmong ks b g ⊎ (g ≡ of_kind k))
among_last [] k b g = (λ h. swap h, λ h. swap h)
  where
    swap : {A B : Type 0} → A ⊎ B → B ⊎ A
    swap (inl a) = inr a
    swap (inr b) = inl b
among_last (x ∷ ks) k b g = (λ h. forth (among_last ks k b g) h, λ h. back (among_last ks k b g) h)
  where
    deeper : IsAmong ks b g ⊎ (g ≡ of_kind k) → IsAmong (x ∷ ks) b g ⊎ (g ≡ of_kind k)
    deeper (inl h) = inl (inr h)
    deeper (inr e) = inr e

    forth : IsAmong (ks ++ k ∷ []) b g ↔ (IsAmong ks b g ⊎ (g ≡ of_kind k)) → IsAmong (x ∷ ks ++ k ∷ []) b g → IsAmong (x ∷ ks) b g ⊎ (g ≡ of_kind k)
    forth more (inl e) = inl (inl e)
    forth more (inr h) = deeper (more.0 h)

    back : IsAmong (ks ++ k ∷ []) b g ↔ (IsAmong ks b g ⊎ (g ≡ of_kind k)) → IsAmong (x ∷ ks) b g ⊎ (g ≡ of_kind k) → IsAmong (x ∷ ks ++ k ∷ []) b g
    back more (inl (inl e)) = inl e
    back more (inl (inr h)) = inr (more.1 (inl h))
    back more (inr e) = inr (more.1 (inr e))

pub of_kind_more : (old new : sorts.Sorts) (k x : kinds.Kind) → k ≡ x → ((g : Ground) → (allows new g ≡ true) ↔ ((allows old g ≡ true) ⊎ (g ≡ of_kind x)))
    → (g : Ground) → (allows new g ≡ true) ↔ ((allows old g ≡ true) ⊎ (g ≡ of_kind k))
of_kind_more old new k x e h g = subst (λ y. (allows new g ≡ true) ↔ ((allows old g ≡ true) ⊎ (g ≡ of_kind y))) (sym e) (h g)

pub kind_added : (ks : List kinds.Kind) (i : ℕ) (k : kinds.Kind) (b : Bool) (old new : sorts.Sorts) → i < length ks → k ≡ get_or ks i k
    → ((g : Ground) → (allows new g ≡ true) ↔ ((allows old g ≡ true) ⊎ (g ≡ of_kind k))) → ((g : Ground) → (allows old g ≡ true) ↔ IsAmong (take i ks) b g)
    → (g : Ground) → (allows new g ≡ true) ↔ IsAmong (take (i + 1) ks) b g
kind_added ks i k b old new lt at step h g =
    let next : take (i + 1) ks ≡ take i ks ++ k ∷ [] = take_more ks i k lt ∙ ap (λ d. take i ks ++ d ∷ []) (sym at) in
    subst (λ xs. (allows new g ≡ true) ↔ IsAmong xs b g) (sym next)
    (λ e. (among_last (take i ks) k b g).1 (forth ((step g).0 e)), λ e. (step g).1 (back ((among_last (take i ks) k b g).0 e)))
  where
    forth : (allows old g ≡ true) ⊎ (g ≡ of_kind k) → IsAmong (take i ks) b g ⊎ (g ≡ of_kind k)
    forth (inl e) = inl ((h g).0 e)
    forth (inr e) = inr e

    back : IsAmong (take i ks) b g ⊎ (g ≡ of_kind k) → (allows old g ≡ true) ⊎ (g ≡ of_kind k)
    back (inl e) = inl ((h g).1 e)
    back (inr e) = inr e

pub kinds_all : (ks : List kinds.Kind) (i : ℕ) (b : Bool) (k : sorts.Sorts) → length ks ≤ i → ((g : Ground) → (allows k g ≡ true) ↔ IsAmong (take i ks) b g)
    → (g : Ground) → (allows k g ≡ true) ↔ IsAmong ks b g
kinds_all ks i b k le h g = subst (λ xs. (allows k g ≡ true) ↔ IsAmong xs b g) (take_all ks i le) (h g)

pub among : (ks xs : List kinds.Kind) (b : Bool) (k : sorts.Sorts) → xs ≡ ks → ((g : Ground) → (allows k g ≡ true) ↔ IsAmong xs b g) → (g : Ground) → (allows k g ≡ true) ↔ IsAmong ks b g
among ks xs b k e h g = subst (λ ys. (allows k g ≡ true) ↔ IsAmong ys b g) e (h g)

-- kinds are scalars

of_kind_apart : (k : kinds.Kind) → g_pattern ≡ of_kind k → ⊥
of_kind_apart kind.Bool e = cc
of_kind_apart kind.Int e = cc
of_kind_apart kind.Text e = cc
of_kind_apart kind.Time e = cc

among_pattern : (ks : List kinds.Kind) (span : Bool) → IsAmong ks span g_pattern → ⊥
among_pattern [] span h = let e : g_pattern ≡ g_span = h.1 in cc
among_pattern (k ∷ ks) span (inl e) = of_kind_apart k e
among_pattern (k ∷ ks) span (inr h) = among_pattern ks span h

pub scalars : (ks : List kinds.Kind) (span : Bool) (k : sorts.Sorts) → ((g : Ground) → (allows k g ≡ true) ↔ IsAmong ks span g) → k.other ≡ false
scalars ks span k h = by_cases k.other (λ e. absurd (among_pattern ks span ((h g_pattern).0 e))) (λ e. e)
