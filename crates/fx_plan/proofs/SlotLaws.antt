-- What stands at a label.
use Rattle.std.proofs.Common.{◌≡◌, refl, sym, ap, ◌∙◌, Bool, true, false, Option, None, Some}
use Rattle.std.specs.Prelude.{if◌then◌else◌}
use Rattle.std.proofs.lemmas.Cmp.{nat_list_eq_equiv}
use Rattle.std.specs.Cmp.Lexicographic.{same_text as equal_text}
use mathlib.Core.Bool.{false≢true}
use Rattle.fx_base.specs.Text.{same_text}
use Rattle.fx_types.specs.Term.{Label}
use Rattle.fx_meaning.specs.Value.{Val, Slots, no_slots, more_slots, look, or_else, push, keep}

pub same_itself : (x : Label) → same_text x x ≡ true
same_itself x = nat_list_eq_equiv.refl x

-- ---- where a label stands

pub or_none : (o : Option Val) → o ≡ or_else o None
or_none None = refl
or_none (Some v) = refl

or_or : (a b c : Option Val) → or_else (or_else a b) c ≡ or_else a (or_else b c)
or_or None b c = refl
or_or (Some v) b c = refl

pub look_push : (slots : Slots) (x : Label) (v : Val) (l : Label) → look l (push slots x v) ≡ or_else (if same_text l x then Some v else None) (look l slots)
look_push no_slots x v l = or_none (if same_text l x then Some v else None)
look_push (more_slots y w slots) x v l =
    ap (λ o. or_else o (if same_text l y then Some w else None)) (look_push slots x v l)
    ∙ or_or (if same_text l x then Some v else None) (look l slots) (if same_text l y then Some w else None)

-- one list behind another

abbrev pub joined : Slots → Slots → Slots
joined no_slots more = more
joined (more_slots x v slots) more = more_slots x v (joined slots more)

pub joined_push : (slots : Slots) (x : Label) (v : Val) (more : Slots) → joined (push slots x v) more ≡ joined slots (more_slots x v more)
joined_push no_slots x v more = refl
joined_push (more_slots y w slots) x v more = ap (more_slots y w) (joined_push slots x v more)

pub joined_none : (slots : Slots) → joined slots no_slots ≡ slots
joined_none no_slots = refl
joined_none (more_slots x v slots) = ap (more_slots x v) (joined_none slots)

pub look_joined : (slots more : Slots) (l : Label) → look l (joined slots more) ≡ or_else (look l more) (look l slots)
look_joined no_slots more l = or_none (look l more)
look_joined (more_slots x v slots) more l =
    ap (λ o. or_else o (if same_text l x then Some v else None)) (look_joined slots more l)
    ∙ or_or (look l more) (look l slots) (if same_text l x then Some v else None)

-- a label that passes the test stands where it stood

kept_step : (c t : Bool) (v : Val) (l x : Label) (rest slots : Slots) → c ≡ same_text l x → (c ≡ true → t ≡ true) → look l rest ≡ look l slots
    → look l (if t then more_slots x v rest else rest) ≡ or_else (look l slots) (if c then Some v else None)
kept_step c true v l x rest slots e pass same =
    ap (λ o. or_else o (if same_text l x then Some v else None)) same ∙ ap (λ d. or_else (look l slots) (if d then Some v else None)) (sym e)
kept_step true false v l x rest slots e pass same = absurd (false≢true (pass refl))
kept_step false false v l x rest slots e pass same = same ∙ or_none (look l slots)

pub look_keep : (test : Label → Bool) (slots : Slots) (l : Label) → test l ≡ true → look l (keep test slots) ≡ look l slots
look_keep test no_slots l e = refl
look_keep test (more_slots x v slots) l e =
    kept_step (same_text l x) (test x) v l x (keep test slots) slots refl (λ same. ap test (sym (equal_text l x (sym same))) ∙ e) (look_keep test slots l e)
