-- Laws of ends, and of works that are steady or limited.
use Rattle.std.proofs.Common.{◌≡◌, ℕ, ◌+◌, ◌≤◌, true, false, List, [], ◌∷◌, ◌++◌, add_assoc, zero-add, add-zero, arith, refl, sym, ap, subst, ◌∙◌}
use Rattle.std.specs.Prelude.{cond, nat_le}
use Rattle.std.specs.List.{AllByRecursion}
use Rattle.std.proofs.lemmas.Bool.{leb-true, le-leb}
use Rattle.fx_value.specs.Ends.{End, Gives, Faults, Stuck, More, later, and_then, cut, IsWithin, Stays, IsLimited}
use Rattle.fx_value.specs.Works.{flat_each, walk, into, Extends, InTime, IsSteady}

-- ---- ends one after another

pub later-zero : {A : Type 0} (e : End A) → later 0 e ≡ e
later-zero (Gives v t) = ap (λ n. Gives v n) (zero-add t)
later-zero (Faults f t) = ap (λ n. Faults f n) (zero-add t)
later-zero Stuck = refl
later-zero More = refl

pub later-later : {A : Type 0} (m n : ℕ) (e : End A) → later m (later n e) ≡ later (m + n) e
later-later m n (Gives v t) = ap (λ k. Gives v k) (sym (add_assoc m n t))
later-later m n (Faults f t) = ap (λ k. Faults f k) (sym (add_assoc m n t))
later-later m n Stuck = refl
later-later m n More = refl

pub then-later : {A B : Type 0} (n : ℕ) (e : End A) (f : A → End B) → and_then (later n e) f ≡ later n (and_then e f)
then-later n (Gives v t) f = sym (later-later n t (f v))
then-later n (Faults fault t) f = refl
then-later n Stuck f = refl
then-later n More f = refl

pub then-then : {A B C : Type 0} (e : End A) (f : A → End B) (g : B → End C) → and_then (and_then e f) g ≡ and_then e (λ v. and_then (f v) g)
then-then (Gives v t) f g = then-later t (f v) g
then-then (Faults fault t) f g = refl
then-then Stuck f g = refl
then-then More f g = refl

-- to give the value as it is changes nothing
pub then-gives : {A : Type 0} (e : End A) → and_then e (λ v. Gives v 0) ≡ e
then-gives (Gives v t) = ap (λ n. Gives v n) (add-zero t)
then-gives (Faults f t) = refl
then-gives Stuck = refl
then-gives More = refl

-- what gives a value gave one first
pub record Passed {A B : Type 0} (first : End A) (next : A → End B) (value : B) (ticks : ℕ) : Type 0 where
  pub before : A
  pub spent : ℕ
  pub rest : ℕ
  pub first_gives : first ≡ Gives before spent
  pub next_gives : next before ≡ Gives value rest
  pub sum : ticks ≡ spent + rest

passed_later : {A B : Type 0} (v : A) (t : ℕ) (next : A → End B) (end : End B) (value : B) (ticks : ℕ) → next v ≡ end → later t end ≡ Gives value ticks
    → Passed (Gives v t) next value ticks
passed_later v t next (Gives w s) value ticks is h = record {
  before = v;
  spent = t;
  rest = s;
  first_gives = refl;
  next_gives = is ∙ ap (λ x. Gives x s) (cc);
  sum = cc;
}
passed_later v t next (Faults f s) value ticks is h = cc
passed_later v t next Stuck value ticks is h = cc
passed_later v t next More value ticks is h = cc

pub passed : {A B : Type 0} (first : End A) (next : A → End B) (value : B) (ticks : ℕ) → and_then first next ≡ Gives value ticks → Passed first next value ticks
passed (Gives v t) next value ticks h = passed_later v t next (next v) value ticks refl h
passed (Faults f t) next value ticks h = cc
passed Stuck next value ticks h = cc
passed More next value ticks h = cc

-- ---- ends that stay

pub extends_same : {A : Type 0} (e : End A) → Extends e e
extends_same (Gives v t) = refl
extends_same (Faults f t) = refl
extends_same Stuck = refl
extends_same More = tt

pub in_time_same : {A : Type 0} (limit : ℕ) (e : End A) → InTime limit e e
in_time_same limit (Gives v t) = λ _. refl
in_time_same limit (Faults f t) = λ _. refl
in_time_same limit Stuck = tt
in_time_same limit More = tt

extends_later : {A : Type 0} (n : ℕ) (d e : End A) → Extends d e → Extends (later n d) (later n e)
extends_later n (Gives v t) e h = ap (later n) h
extends_later n (Faults f t) e h = ap (later n) h
extends_later n Stuck e h = ap (later n) h
extends_later n More e h = tt

extends_then : {A B : Type 0} (d e : End A) (f g : A → End B) → Extends d e → ((v : A) → Extends (f v) (g v)) → Extends (and_then d f) (and_then e g)
extends_then (Gives v t) e f g h k = subst (λ x. Extends (later t (f v)) (and_then x g)) (sym h) (extends_later t (f v) (g v) (k v))
extends_then (Faults fault t) e f g h k = ap (λ x. and_then x g) h
extends_then Stuck e f g h k = ap (λ x. and_then x g) h
extends_then More e f g h k = tt

in_time_after : {B : Type 0} (limit t : ℕ) (d e whole : End B) → (t ≤ limit → whole ≡ later t e) → InTime limit d e → InTime limit (later t d) whole
in_time_after limit t (Gives w s) e whole is h = λ below. is (omega arith) ∙ ap (later t) (h (omega arith))
in_time_after limit t (Faults fault s) e whole is h = λ below. is (omega arith) ∙ ap (later t) (h (omega arith))
in_time_after limit t Stuck e whole is h = tt
in_time_after limit t More e whole is h = tt

in_time_then : {A B : Type 0} (limit : ℕ) (d e : End A) (f g : A → End B) → InTime limit d e → ((v : A) → InTime limit (f v) (g v))
    → InTime limit (and_then d f) (and_then e g)
in_time_then limit (Gives v t) e f g h k = in_time_after limit t (f v) (g v) (and_then e g) (λ below. ap (λ x. and_then x g) (h below)) (k v)
in_time_then limit (Faults fault t) e f g h k = λ below. ap (λ x. and_then x g) (h below)
in_time_then limit Stuck e f g h k = tt
in_time_then limit More e f g h k = tt

-- ---- steady works

pub steady_same : {A : Type 0} (e : End A) → IsSteady (λ _. e)
steady_same e = record { extends = λ least limit _. extends_same e; in_time = λ least limit. in_time_same limit e }

pub steady_then : {A B : Type 0} (work : ℕ → End A) (next : A → ℕ → End B) → IsSteady work → ((v : A) → IsSteady (next v))
    → IsSteady (λ n. and_then (work n) (λ v. next v n))
steady_then work next first then = record {
  extends = λ least limit below.
      extends_then (work least) (work limit) (λ v. next v least) (λ v. next v limit) (first.extends least limit below) (λ v. (then v).extends least limit below);
  in_time = λ least limit.
      in_time_then limit (work least) (work limit) (λ v. next v least) (λ v. next v limit) (first.in_time least limit) (λ v. (then v).in_time least limit);
}

pub steady_each : {X Y : Type 0} (step : ℕ → X → End (List Y)) → ((x : X) → IsSteady (λ n. step n x)) → (xs : List X) → IsSteady (λ n. flat_each (step n) xs)
steady_each {X} {Y} step steady [] = steady_same {A = List Y} (Gives [] 0)
steady_each {X} {Y} step steady (x ∷ xs) =
    steady_then (λ n. step n x) (λ ys n. and_then (flat_each (step n) xs) (λ zs. Gives (ys ++ zs) 0)) (steady x)
    (λ ys. steady_then (λ n. flat_each (step n) xs) (λ zs n. Gives (ys ++ zs) 0) (steady_each step steady xs) (λ zs. steady_same {A = List Y} (Gives (ys ++ zs) 0)))

pub steady_walk : {S X : Type 0} (step : ℕ → S → X → End S) → ((s : S) (x : X) → IsSteady (λ n. step n s x)) → (s : S) (xs : List X) → IsSteady (λ n. walk (step n) s xs)
steady_walk {S} {X} step steady s [] = steady_same {A = S} (Gives s 0)
steady_walk {S} {X} step steady s (x ∷ xs) =
    steady_then (λ n. step n s x) (λ t n. walk (step n) t xs) (steady s x) (λ t. steady_walk step steady t xs)

pub steady_into : {G Y : Type 0} (add : G → Y → G) (gathered : G) (work : ℕ → End Y) → IsSteady work → IsSteady (λ n. into add gathered (work n))
steady_into {G} {Y} add gathered work steady =
    steady_then work (λ y n. Gives (add gathered y) 0) steady (λ y. steady_same {A = G} (Gives (add gathered y) 0))

-- ---- limited works

extends_stays : {A : Type 0} (least limit : ℕ) (d e : End A) → least ≤ limit → IsWithin least d → Stays least limit d e → Extends d e
extends_stays least limit (Gives v t) e below within h = h (omega arith)
extends_stays least limit (Faults f t) e below within h = h (omega arith)
extends_stays least limit Stuck e below within h = h below
extends_stays least limit More e below within h = tt

in_time_stays : {A : Type 0} (least limit : ℕ) (d e : End A) → Stays least limit d e → InTime limit d e
in_time_stays least limit (Gives v t) e h = h
in_time_stays least limit (Faults f t) e h = h
in_time_stays least limit Stuck e h = tt
in_time_stays least limit More e h = tt

pub steady_limited : {A : Type 0} (work : ℕ → End A) → IsLimited work → IsSteady work
steady_limited work limited = record {
  extends = λ least limit below. extends_stays least limit (work least) (work limit) below (limited.within least) (limited.stays least limit);
  in_time = λ least limit. in_time_stays least limit (work least) (work limit) (limited.stays least limit);
}

cut_within : {A : Type 0} (limit : ℕ) (end : End A) → IsWithin limit (cut limit end)
cut_within {A} limit (Gives value ticks) =
    elim (nat_le ticks limit) as (λ b. nat_le ticks limit ≡ b → IsWithin {A = A} limit (cond b (Gives value ticks) More)) [
      | true ↦ λ below. leb-true ticks limit below
      | false ↦ λ _. tt
    ] refl
cut_within {A} limit (Faults fault ticks) =
    elim (nat_le ticks limit) as (λ b. nat_le ticks limit ≡ b → IsWithin {A = A} limit (cond b (Faults fault ticks) More)) [
      | true ↦ λ below. leb-true ticks limit below
      | false ↦ λ _. tt
    ] refl
cut_within {A} limit Stuck = tt
cut_within {A} limit More = tt

cut_stays : {A : Type 0} (least limit : ℕ) (d e : End A) → (least ≤ limit → Extends d e) → InTime limit d e → Stays least limit (cut least d) (cut limit e)
cut_stays {A} least limit (Gives value ticks) e extends in_time =
    elim (nat_le ticks least) as (λ b. Stays {A = A} least limit (cond b (Gives value ticks) More) (cut limit e)) [
      | true ↦ λ below. ap (cut limit) (in_time below) ∙ ap (λ b. cond b (Gives value ticks) More) (le-leb ticks limit below)
      | false ↦ tt
    ]
cut_stays {A} least limit (Faults fault ticks) e extends in_time =
    elim (nat_le ticks least) as (λ b. Stays {A = A} least limit (cond b (Faults fault ticks) More) (cut limit e)) [
      | true ↦ λ below. ap (cut limit) (in_time below) ∙ ap (λ b. cond b (Faults fault ticks) More) (le-leb ticks limit below)
      | false ↦ tt
    ]
cut_stays {A} least limit Stuck e extends in_time = λ below. ap (cut limit) (extends below)
cut_stays {A} least limit More e extends in_time = tt

-- a steady work that is cut at its limit is limited
pub limited_cut : {A : Type 0} (work : ℕ → End A) → IsSteady work → IsLimited (λ limit. cut limit (work limit))
limited_cut work steady = record {
  within = λ limit. cut_within limit (work limit);
  stays = λ least limit. cut_stays least limit (work least) (work limit) (steady.extends least limit) (steady.in_time least limit);
}

-- ---- what holds of all that is given

all_both : {Y : Type 0} (P : Y → Type 0) (ys zs : List Y) → AllByRecursion P ys → AllByRecursion P zs → AllByRecursion P (ys ++ zs)
all_both P [] zs h k = k
all_both P (y ∷ ys) zs h k = (h.0, all_both P ys zs h.1 k)

-- what holds of all that each step gives holds of all
pub each_all : {X Y : Type 0} (P : Y → Type 0) (step : X → End (List Y))
    → ((x : X) (ys : List Y) (ticks : ℕ) → step x ≡ Gives ys ticks → AllByRecursion P ys)
    → (xs : List X) (ys : List Y) (ticks : ℕ) → flat_each step xs ≡ Gives ys ticks → AllByRecursion P ys
each_all {X} {Y} P step each [] ys ticks h =
    let none : [] ≡ ys = cc in subst (AllByRecursion P) none tt
each_all {X} {Y} P step each (x ∷ xs) ys ticks h =
    let first = passed (step x) (λ us. and_then (flat_each step xs) (λ zs. Gives (us ++ zs) 0)) ys ticks h in
    let rest = passed (flat_each step xs) (λ zs. Gives (first.before ++ zs) 0) ys first.rest first.next_gives in
    let whole : first.before ++ rest.before ≡ ys = cc (rest.next_gives) in
    subst (AllByRecursion P) whole
    (all_both P first.before rest.before (each x first.before first.spent first.first_gives) (each_all P step each xs rest.before rest.spent rest.first_gives))
