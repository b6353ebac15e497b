-- Relations between ends that hold after the same first end, and between ends with one tick more.
use Rattle.std.proofs.Common.{◌≡◌, ℕ, suc, ◌≤◌, arith, refl, sym, ap, subst, ◌∙◌}
use Rattle.fx_value.specs.Ends.{End, Gives, Faults, Stuck, More, later, and_then}
use Rattle.fx_value.specs.Works.{Extends, InTime}

-- ---- an end that stays

pub extends_later : {A : Type 0} (n : ℕ) (d e : End A) → Extends d e → Extends (later n d) (later n e)
extends_later n (Gives v t) e h = ap (later n) h
extends_later n (Faults f t) e h = ap (later n) h
extends_later n Stuck e h = ap (later n) h
extends_later n More e h = tt

pub extends_then : {A B : Type 0} (d e : End A) (f g : A → End B) → Extends d e → ((v : A) → Extends (f v) (g v)) → Extends (and_then d f) (and_then e g)
extends_then (Gives v t) e f g h k = subst (λ x. Extends (later t (f v)) (and_then x g)) (sym h) (extends_later t (f v) (g v) (k v))
extends_then (Faults fault t) e f g h k = ap (λ x. and_then x g) h
extends_then Stuck e f g h k = ap (λ x. and_then x g) h
extends_then More e f g h k = tt

-- ---- an end within a limit

in_time_after : {B : Type 0} (limit t : ℕ) (d e whole : End B) → (t ≤ limit → whole ≡ later t e) → InTime limit d e → InTime limit (later t d) whole
in_time_after limit t (Gives w s) e whole is h = λ below. is (omega arith) ∙ ap (later t) (h (omega arith))
in_time_after limit t (Faults fault s) e whole is h = λ below. is (omega arith) ∙ ap (later t) (h (omega arith))
in_time_after limit t Stuck e whole is h = tt
in_time_after limit t More e whole is h = tt

pub in_time_then : {A B : Type 0} (limit : ℕ) (d e : End A) (f g : A → End B) → InTime limit d e → ((v : A) → InTime limit (f v) (g v))
    → InTime limit (and_then d f) (and_then e g)
in_time_then limit (Gives v t) e f g h k = in_time_after limit t (f v) (g v) (and_then e g) (λ below. ap (λ x. and_then x g) (h below)) (k v)
in_time_then limit (Faults fault t) e f g h k = λ below. ap (λ x. and_then x g) (h below)
in_time_then limit Stuck e f g h k = tt
in_time_then limit More e f g h k = tt

-- a tick more on both sides is a tick more in the limit
pub in_time_tick : {A : Type 0} (limit : ℕ) (d e : End A) → InTime limit d e → InTime (suc limit) (later 1 d) (later 1 e)
in_time_tick limit (Gives v t) e h = λ below. ap (later 1) (h (omega arith))
in_time_tick limit (Faults f t) e h = λ below. ap (later 1) (h (omega arith))
in_time_tick limit Stuck e h = tt
in_time_tick limit More e h = tt

-- what takes a tick doesn't end within none
pub in_no_time : {A : Type 0} (d e : End A) → InTime 0 (later 1 d) e
in_no_time (Gives v t) e = λ below. absurd (omega arith)
in_no_time (Faults f t) e = λ below. absurd (omega arith)
in_no_time Stuck e = tt
in_no_time More e = tt
