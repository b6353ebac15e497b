-- The words of arguments: those that say none may come and go.
use Rattle.std.proofs.Common.{◌≡◌, refl, sym, ap, ◌∙◌, Bool, true, false, [], Option, None, Some}
use Rattle.std.specs.Prelude.{if◌then◌else◌}
use Rattle.fx_types.specs.Term.{Label}
use Rattle.fx_schemes.specs.Signature.{form_of}
use Rattle.fx_schemes.specs.declared.list.Builtin.{Builtin}
use Rattle.fx_meaning.specs.Value.{Val, Slots, no_slots, more_slots, push, keep}
use Rattle.fx_plan.specs.Said.{and_says, said_in}

-- one more at the end that says no words
pub said_push : (x : Builtin) (args : Slots) (p : Label) (v : Val) → form_of x p ≡ None → said_in (Some x) (push args p v) ≡ said_in (Some x) args
said_push x no_slots p v none = ap (λ o. and_says o p v (Some [])) none
said_push x (more_slots y u args) p v none = ap (and_says (form_of x y) y u) (said_push x args p v none)

-- without some that say none

says_step : (x : Builtin) (y : Label) (v : Val) (args rest : Slots) (c : Bool) → (c ≡ false → form_of x y ≡ None) → said_in (Some x) rest ≡ said_in (Some x) args
    → said_in (Some x) (if c then more_slots y v rest else rest) ≡ said_in (Some x) (more_slots y v args)
says_step x y v args rest true none same = ap (and_says (form_of x y) y v) same
says_step x y v args rest false none same = same ∙ sym (ap (λ o. and_says o y v (said_in (Some x) args)) (none refl))

pub kept_says : (x : Builtin) (test : Label → Bool) (args : Slots) → ((l : Label) → test l ≡ false → form_of x l ≡ None) → said_in (Some x) (keep test args) ≡ said_in (Some x) args
kept_says x test no_slots h = refl
kept_says x test (more_slots y v args) h = says_step x y v args (keep test args) (test y) (h y) (kept_says x test args h)
