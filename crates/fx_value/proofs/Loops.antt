-- Loops that do work part by part: what is done, what is ahead, and how the whole ends.
use Rattle.std.proofs.Common.{◌≡◌, ℕ, ◌+◌, ◌≤◌, ◌<◌, List, [], ◌∷◌, ◌++◌, add-zero, arith, refl, sym, ap, subst, ◌∙◌}
use Rattle.std.specs.Prelude.{cond, nat_le, true, false, Result, Ok, Err}
use Rattle.std.proofs.lemmas.Bool.{le-leb}
use Rattle.fx_base.specs.declared.fault.Fault.{Fault}
use Rattle.fx_base.specs.declared.halt.Halt.{Halt}
use Rattle.fx_base.specs.declared.halt.Halt.TheVariants as halt
use Rattle.fx_base.specs.declared.meter.Meter.{Meter}
use Rattle.fx_value.specs.Calls.{IsReady, IsMetered, Ended, Exceeded, Answers, Told}
use Rattle.fx_value.specs.Ends.{End, Gives, Faults, Stuck, More, later, and_then, cut, NeverStuck}
use Rattle.fx_value.specs.Works.{flat_each, walk, into, Extends, IsSteady}
use Rattle.fx_value.proofs.Ends.{later-zero, later-later, then-then, then-gives}

-- ---- meters

pub metered_on : (before now after : Meter) → IsMetered before now → IsMetered now after → IsMetered before after
metered_on before now after first then = record {
  budget = then.budget ∙ first.budget;
  kept = omega arith;
  spent = omega arith;
}

pub ready_on : (before after : Meter) → IsReady before → IsMetered before after → IsReady after
ready_on before after ready metered = record { spent = omega arith; budget = omega arith }

-- ---- work that is under way

-- under each limit that isn't below the ticks spent so far, the whole is what is ahead, with these ticks before it
pub record Goes {A : Type 0} (whole ahead : ℕ → End A) (before now : Meter) : Type 0 where
  pub ticks : ℕ
  pub spent : now.spent ≡ before.spent + ticks
  pub at : (limit : ℕ) → ticks ≤ limit → whole limit ≡ later ticks (ahead limit)
  pub metered : IsMetered before now

module _ {A : Type 0} where
  pub goes_begins : (whole : ℕ → End A) (meter : Meter) → meter.spent ≤ meter.budget → Goes whole whole meter meter
  goes_begins whole meter within = record {
    ticks = 0;
    spent = sym (add-zero meter.spent);
    at = λ limit _. sym (later-zero (whole limit));
    metered = record { budget = refl; kept = omega arith; spent = within };
  }

  -- the same work ahead in other words
  pub goes_along : (whole ahead other : ℕ → End A) (before now : Meter) → ((limit : ℕ) → ahead limit ≡ other limit)
      → Goes whole ahead before now → Goes whole other before now
  goes_along whole ahead other before now same goes = record {
    ticks = goes.ticks;
    spent = goes.spent;
    at = λ limit enough. goes.at limit enough ∙ ap (later goes.ticks) (same limit);
    metered = goes.metered;
  }

  -- nothing is ahead but to give the value
  pub goes_ends : (whole : ℕ → End A) (value : A) (before now : Meter) → Goes whole (λ _. Gives value 0) before now → Ended whole (Gives value) before now
  goes_ends whole value before now goes = record {
    ticks = goes.ticks;
    spent = goes.spent;
    at = λ limit enough. goes.at limit enough ∙ ap (λ n. Gives value n) (add-zero goes.ticks);
  }

-- ---- how far an end lies

-- an end that is counted from `spent` on lies at the sum or behind it
LiesAt : {A : Type 0} → ℕ → ℕ → End A → Type 0
LiesAt spent sum (Gives value ticks) = sum ≤ spent + ticks
LiesAt spent sum (Faults fault ticks) = sum ≤ spent + ticks
LiesAt spent sum Stuck = Unit {0}
LiesAt spent sum More = Unit {0}

module _ {A : Type 0} (spent sum : ℕ) where
  lies_of : (work : ℕ → End A) (limit : ℕ) (e : End A) → work limit ≡ e
      → ((value : A) (ticks : ℕ) → work limit ≡ Gives value ticks → sum ≤ spent + ticks)
      → ((fault : Fault) (ticks : ℕ) → work limit ≡ Faults fault ticks → sum ≤ spent + ticks) → LiesAt spent sum e
  unfolding LiesAt
  lies_of work limit (Gives v t) is gives faults = gives v t is
  lies_of work limit (Faults f t) is gives faults = faults f t is
  lies_of work limit Stuck is gives faults = tt
  lies_of work limit More is gives faults = tt

  lies_later : (ticks : ℕ) (e : End A) → LiesAt (spent + ticks) sum e → LiesAt spent sum (later ticks e)
  unfolding LiesAt
  lies_later ticks (Gives v t) h = omega arith
  lies_later ticks (Faults f t) h = omega arith
  lies_later ticks Stuck h = tt
  lies_later ticks More h = tt

  lies_before : (d e : End A) → Extends d e → LiesAt spent sum e → LiesAt spent sum d
  unfolding LiesAt
  lies_before (Gives v t) e is h = subst (LiesAt spent sum) is h
  lies_before (Faults f t) e is h = subst (LiesAt spent sum) is h
  lies_before Stuck e is h = tt
  lies_before More e is h = tt

lies_further : {B : Type 0} (spent sum ticks : ℕ) (e : End B) → sum ≤ spent + ticks → LiesAt spent sum (later ticks e)
unfolding LiesAt
lies_further spent sum ticks (Gives v t) h = omega arith
lies_further spent sum ticks (Faults f t) h = omega arith
lies_further spent sum ticks Stuck h = tt
lies_further spent sum ticks More h = tt

lies_then : {A B : Type 0} (spent sum : ℕ) (e : End A) (next : A → End B) → LiesAt spent sum e → LiesAt spent sum (and_then e next)
unfolding LiesAt
lies_then spent sum (Gives v t) next h = lies_further spent sum t (next v) h
lies_then spent sum (Faults f t) next h = h
lies_then spent sum Stuck next h = tt
lies_then spent sum More next h = tt

exceeded_by : {A : Type 0} (work : ℕ → End A) (before : Meter) (sum : ℕ) → before.budget < sum → ((limit : ℕ) → LiesAt before.spent sum (work limit)) → Exceeded work before sum
unfolding LiesAt
exceeded_by work before sum past lies = record {
  past = past;
  gives = λ limit value ticks is. subst (LiesAt before.spent sum) is (lies limit);
  faults = λ limit fault ticks is. subst (LiesAt before.spent sum) is (lies limit);
}

-- ---- one part of the work

module _ {A B : Type 0} (whole : ℕ → End B) (part : ℕ → End A) (next : A → ℕ → End B) (before now : Meter)
    (goes : Goes whole (λ n. and_then (part n) (λ v. next v n)) before now) where
  -- a part of work that is never Stuck is never Stuck
  pub goes_unstuck : IsSteady part → NeverStuck whole → NeverStuck part
  goes_unstuck steady unstuck limit stuck =
      let later_on : part (limit + goes.ticks) ≡ Stuck = subst (λ e. Extends e (part (limit + goes.ticks))) stuck (steady.extends limit (limit + goes.ticks) (omega arith)) in
      unstuck (limit + goes.ticks) (goes.at (limit + goes.ticks) (omega arith) ∙ ap (λ e. later goes.ticks (and_then e (λ v. next v (limit + goes.ticks)))) later_on)

  module _ (after : Meter) (metered : IsMetered now after) where
    -- the part gave a value: what follows from it is ahead
    pub goes_then : (value : A) → Ended part (Gives value) now after → Goes whole (next value) before after
    goes_then value ended = record {
      ticks = goes.ticks + ended.ticks;
      spent = omega arith;
      at = λ limit enough.
          goes.at limit (omega arith) ∙ ap (λ e. later goes.ticks (and_then e (λ v. next v limit))) (ended.at limit (omega arith))
          ∙ later-later goes.ticks ended.ticks (next value limit);
      metered = metered_on before now after goes.metered metered;
    }

    goes_faults : (fault : Fault) → Ended part (Faults fault) now after → Ended whole (Faults fault) before after
    goes_faults fault ended = record {
      ticks = goes.ticks + ended.ticks;
      spent = omega arith;
      at = λ limit enough.
          goes.at limit (omega arith) ∙ ap (λ e. later goes.ticks (and_then e (λ v. next v limit))) (ended.at limit (omega arith));
    }

    goes_exceeds : (sum : ℕ) → IsSteady whole → Exceeded part now sum → Exceeded whole before sum
    goes_exceeds sum steady over =
        let budget : now.budget ≡ before.budget = goes.metered.budget in
        exceeded_by whole before sum (omega (arith, over.past))
        (λ limit.
        let far = limit + goes.ticks in
        let lies : LiesAt (before.spent + goes.ticks) sum (part far)
        = subst (λ n. LiesAt n sum (part far)) goes.spent (lies_of now.spent sum part far (part far) refl (over.gives far) (over.faults far)) in
        let ahead : LiesAt before.spent sum (whole far)
        = subst (LiesAt before.spent sum) (sym (goes.at far (omega arith)))
        (lies_later before.spent sum goes.ticks _ (lies_then (before.spent + goes.ticks) sum (part far) (λ v. next v far) lies)) in
        lies_before before.spent sum (whole limit) (whole far) (steady.extends limit far (omega arith)) ahead)

    -- the part ended without a value, and so does the whole
    pub goes_stops : (why : Halt) → IsSteady whole → Answers part now after (Err why) → Answers whole before after (Err why)
    goes_stops (halt.Fault fault) steady answer = goes_faults fault answer
    goes_stops (halt.Budget sum) steady answer = goes_exceeds sum steady answer
    goes_stops halt.Memory steady answer = tt

-- the last part's answer is that of the whole
pub goes_answers : {A : Type 0} (whole part : ℕ → End A) (before now after : Meter) → Goes whole part before now → IsMetered now after → IsSteady whole
    → (answer : Result A Halt) → Answers part now after answer → Answers whole before after answer
goes_answers {A} whole part before now after goes metered steady answer told =
    let last : Goes whole (λ n. and_then (part n) (λ v. Gives v 0)) before now
    = goes_along whole part (λ n. and_then (part n) (λ v. Gives v 0)) before now (λ limit. sym (then-gives (part limit))) goes in
    elim answer as (λ r. Answers part now after r → Answers whole before after r) [
      | Ok value ↦ λ h. goes_ends whole value before after (goes_then whole part (λ v n. Gives v 0) before now last after metered value h)
      | Err why ↦ λ h. goes_stops whole part (λ v n. Gives v 0) before now last after metered why steady h
    ] told

-- a part that is work and what follows from it: the work is ahead
pub goes_into : {A B C : Type 0} (whole : ℕ → End C) (part : ℕ → End A) (middle : A → ℕ → End B) (next : B → ℕ → End C) (before now : Meter)
    → Goes whole (λ n. and_then (and_then (part n) (λ v. middle v n)) (λ w. next w n)) before now
    → Goes whole (λ n. and_then (part n) (λ v. and_then (middle v n) (λ w. next w n))) before now
goes_into whole part middle next before now goes =
    goes_along whole (λ n. and_then (and_then (part n) (λ v. middle v n)) (λ w. next w n)) (λ n. and_then (part n) (λ v. and_then (middle v n) (λ w. next w n))) before now
    (λ n. then-then (part n) (λ v. middle v n) (λ w. next w n)) goes

-- a part that is a value without ticks is done
pub goes_past : {A B : Type 0} (whole : ℕ → End B) (value : A) (next : A → ℕ → End B) (before now : Meter)
    → Goes whole (λ n. and_then (Gives value 0) (λ v. next v n)) before now → Goes whole (next value) before now
goes_past whole value next before now goes =
    goes_along whole (λ n. later 0 (next value n)) (next value) before now (λ n. later-zero (next value n)) goes

-- ---- loops over lists

-- a state goes through what is left, and its next item is ahead
pub walk_ahead : {S X : Type 0} (whole : ℕ → End S) (step : ℕ → S → X → End S) (state : S) (left : List X) (x : X) (xs : List X) (before now : Meter)
    → left ≡ x ∷ xs → Goes whole (λ n. walk (step n) state left) before now
    → Goes whole (λ n. and_then (step n state x) (λ next. walk (step n) next xs)) before now
walk_ahead whole step state left x xs before now is goes =
    goes_along whole (λ n. walk (step n) state left) (λ n. and_then (step n state x) (λ next. walk (step n) next xs)) before now (λ n. ap (walk (step n) state) is) goes

-- nothing was gathered yet
pub into-nothing : {Y : Type 0} (e : End (List Y)) → e ≡ into ◌++◌ [] e
into-nothing e = sym (then-gives e)

-- to put lists one after another is to put them joined
into-more : {Y G : Type 0} (add : G → List Y → G) (more : (g : G) (ys zs : List Y) → add g (ys ++ zs) ≡ add (add g ys) zs) (g : G) (ys : List Y) (rest : End (List Y))
    → and_then (and_then rest (λ zs. Gives (ys ++ zs) 0)) (λ all. Gives (add g all) 0) ≡ into add (add g ys) rest
into-more add more g ys rest =
    then-then rest (λ zs. Gives (ys ++ zs) 0) (λ all. Gives (add g all) 0) ∙ (λ i. and_then rest (λ zs. Gives (more g ys zs i) 0))

module _ {X Y G : Type 0} (add : G → List Y → G) (more : (g : G) (ys zs : List Y) → add g (ys ++ zs) ≡ add (add g ys) zs) where
  -- what the items give is put to what was gathered item by item
  into-each : (step : X → End (List Y)) (g : G) (x : X) (xs : List X)
      → into add g (flat_each step (x ∷ xs)) ≡ and_then (step x) (λ ys. into add (add g ys) (flat_each step xs))
  into-each step g x xs =
      then-then (step x) (λ ys. and_then (flat_each step xs) (λ zs. Gives (ys ++ zs) 0)) (λ all. Gives (add g all) 0)
      ∙ (λ i. and_then (step x) (λ ys. into-more add more g ys (flat_each step xs) i))

  into-state : (step : X → End (List Y)) (g : G) (x : X) (xs : List X)
      → into add g (flat_each step (x ∷ xs)) ≡ and_then (into add g (step x)) (λ next. into add next (flat_each step xs))
  into-state step g x xs =
      into-each step g x xs
      ∙ sym (then-then (step x) (λ ys. Gives (add g ys) 0) (λ next. into add next (flat_each step xs))
      ∙ (λ i. and_then (step x) (λ ys. later-zero (into add (add g ys) (flat_each step xs)) i)))

  module _ (whole : ℕ → End G) (step : ℕ → X → End (List Y)) (g : G) (left : List X) (before now : Meter)
      (goes : Goes whole (λ n. into add g (flat_each (step n) left)) before now) where
    -- the next item is ahead, and what it gives is put to what was gathered
    pub each_ahead : (x : X) (xs : List X) → left ≡ x ∷ xs
        → Goes whole (λ n. and_then (step n x) (λ ys. into add (add g ys) (flat_each (step n) xs))) before now
    each_ahead x xs is =
        goes_along whole (λ n. into add g (flat_each (step n) left)) (λ n. and_then (step n x) (λ ys. into add (add g ys) (flat_each (step n) xs))) before now
        (λ n. ap (λ items. into add g (flat_each (step n) items)) is ∙ into-each (step n) g x xs) goes

    -- the next item is ahead, where the step itself puts what it gives to what was gathered
    pub state_ahead : (x : X) (xs : List X) → left ≡ x ∷ xs
        → Goes whole (λ n. and_then (into add g (step n x)) (λ next. into add next (flat_each (step n) xs))) before now
    state_ahead x xs is =
        goes_along whole (λ n. into add g (flat_each (step n) left)) (λ n. and_then (into add g (step n x)) (λ next. into add next (flat_each (step n) xs))) before now
        (λ n. ap (λ items. into add g (flat_each (step n) items)) is ∙ into-state (step n) g x xs) goes

    -- no item is left: what was gathered is the value
    pub each_ends : left ≡ [] → add g [] ≡ g → Ended whole (Gives g) before now
    each_ends none nothing =
        goes_ends whole g before now
        (goes_along whole (λ n. into add g (flat_each (step n) left)) (λ n. Gives g 0) before now
        (λ n. ap (λ items. into add g (flat_each (step n) items)) none ∙ ap (λ v. Gives v 0) nothing) goes)

-- ---- work that takes no ticks

module _ {A B : Type 0} (part : End A) (next : A → End B) where
  -- the part gave a value: the whole is what follows from it
  pub told_then : (value : A) → part ≡ Gives value 0 → and_then part next ≡ next value
  told_then value told = ap (λ e. and_then e next) told ∙ later-zero (next value)

  -- the part ended without a value, and so does the whole
  pub told_stops : (why : Halt) → Told part (Err why) → Told (and_then part next) (Err why)
  told_stops (halt.Fault fault) told = ap (λ e. and_then e next) told
  told_stops (halt.Budget sum) told = told
  told_stops halt.Memory told = tt

  -- a part of work that isn't Stuck isn't Stuck
  pub told_unstuck : (and_then part next ≡ Stuck → ⊥) → part ≡ Stuck → ⊥
  told_unstuck unstuck stuck = unstuck (ap (λ e. and_then e next) stuck)

-- ---- the public call of an operator, whose work is cut at its limit

cut_through : {A : Type 0} (limit : ℕ) (e d : End A) → cut limit e ≡ d → (d ≡ More → ⊥) → e ≡ d
cut_through limit (Gives v t) d is ends =
    elim (nat_le t limit) as (λ b. cond b (Gives v t) More ≡ d → Gives v t ≡ d) [
      | true ↦ λ h. h
      | false ↦ λ h. absurd (ends (sym h))
    ] is
cut_through limit (Faults f t) d is ends =
    elim (nat_le t limit) as (λ b. cond b (Faults f t) More ≡ d → Faults f t ≡ d) [
      | true ↦ λ h. h
      | false ↦ λ h. absurd (ends (sym h))
    ] is
cut_through limit Stuck d is ends = is
cut_through limit More d is ends = is

module _ {A : Type 0} (work : ℕ → End A) where
  -- work that is never Stuck when it is cut is never Stuck
  pub cut_unstuck : NeverStuck (λ n. cut n (work n)) → NeverStuck work
  cut_unstuck unstuck limit stuck = unstuck limit (ap (cut limit) stuck)

  -- the answer of the work is that of the work cut at its limit
  pub cut_answers : (before after : Meter) (answer : Result A Halt) → Answers work before after answer → Answers (λ n. cut n (work n)) before after answer
  cut_answers before after (Ok value) ended = record {
    ticks = ended.ticks;
    spent = ended.spent;
    at = λ limit enough. ap (cut limit) (ended.at limit enough) ∙ ap (λ b. cond b (Gives value ended.ticks) More) (le-leb ended.ticks limit enough);
  }
  cut_answers before after (Err (halt.Fault fault)) ended = record {
    ticks = ended.ticks;
    spent = ended.spent;
    at = λ limit enough. ap (cut limit) (ended.at limit enough) ∙ ap (λ b. cond b (Faults fault ended.ticks) More) (le-leb ended.ticks limit enough);
  }
  cut_answers before after (Err (halt.Budget sum)) over = record {
    past = over.past;
    gives = λ limit value ticks is. over.gives limit value ticks (cut_through limit (work limit) (Gives value ticks) is (λ e. cc));
    faults = λ limit fault ticks is. over.faults limit fault ticks (cut_through limit (work limit) (Faults fault ticks) is (λ e. cc));
  }
  cut_answers before after (Err halt.Memory) _ = tt
