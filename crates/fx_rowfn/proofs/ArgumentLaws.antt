-- The labels under which rows are given, and that a function literal takes such arguments.
use Rattle.std.proofs.Common.{◌≡◌, ℕ, ◌+◌, ◌<◌, true, false, List, [], ◌∷◌, ◌++◌, length, get_or, take, map, append_assoc, refl, sym, ap, ◌∙◌}
use Rattle.std.proofs.lemmas.List.{map-append, take_more}
use Rattle.std.specs.List.{AllByRecursion}
use Rattle.std.specs.Option.{IfSome}
use Rattle.std.specs.Ordering.{is_gt}
use Rattle.std.specs.Prelude.{Bool, ◌&&◌, Option, None, Some, if◌then◌else◌}
use Rattle.fx_ast.specs.Shape.{OfParam, param, params_of}
use Rattle.fx_ast.specs.Tree.{Default, required, by_pipe, by_value, Params, no_params, more_params}
use Rattle.fx_ast.specs.declared.expr.Param.{Param}
use Rattle.fx_base.specs.Text.{same_text, text_cmp}
use Rattle.fx_types.proofs.RowSums.{same_itself}
use Rattle.fx_meaning.specs.Meaning.{all_given, are_params, is_param, takes}
use Rattle.fx_meaning.specs.Rows.{Row, arguments, due, pair_of, record_of}
use Rattle.fx_meaning.specs.Value.{Label, Slots, Val, is_there, look, or_else, more_slots, no_slots}
use Rattle.fx_values.specs.Shape.{slot, slots_of}
use Rattle.fx_values.specs.declared.value.Slot.{Slot}
use Rattle.fx_rowfn.specs.Rows.{args_in, is_due}

-- ---- the labels

pub due_there : (x : Label) (d : Default) → is_due d ≡ true → due (more_params x d no_params) ≡ x ∷ []
due_there x required is = refl
due_there x by_pipe is = refl
due_there x (by_value e) is = absurd cc

pub due_not : (x : Label) (d : Default) → is_due d ≡ false → due (more_params x d no_params) ≡ []
due_not x required is = absurd cc
due_not x by_pipe is = absurd cc
due_not x (by_value e) is = refl

due_first : (x : Label) (d : Default) (ps : Params) → due (more_params x d ps) ≡ due (more_params x d no_params) ++ due ps
due_first x required ps = refl
due_first x by_pipe ps = refl
due_first x (by_value e) ps = refl

due_behind : (os ps : List OfParam) → due (params_of (os ++ ps)) ≡ due (params_of os) ++ due (params_of ps)
due_behind [] ps = refl
due_behind (o ∷ os) ps =
    due_first o.label o.default (params_of (os ++ ps)) ∙ ap (λ l. due (more_params o.label o.default no_params) ++ l) (due_behind os ps)
    ∙ sym (append_assoc (due (more_params o.label o.default no_params)) (due (params_of os)) (due (params_of ps)))
    ∙ ap (λ l. l ++ due (params_of ps)) (sym (due_first o.label o.default (params_of os)))

-- one parameter more was looked at
pub due_more : (now after : List Label) (ps : List Param) (i : ℕ) (p : Param) → i < length ps → p ≡ get_or ps i p
    → now ≡ due (params_of (map param (take i ps))) → after ≡ now ++ due (params_of (param p ∷ [])) → after ≡ due (params_of (map param (take (i + 1) ps)))
due_more now after ps i p below is inv more =
    more ∙ ap (λ l. l ++ due (params_of (param p ∷ []))) inv ∙ sym (due_behind (map param (take i ps)) (param p ∷ []))
    ∙ ap (λ os. due (params_of os)) (sym (map-append param (take i ps) (p ∷ [])) ∙ ap (map param) (ap (λ y. take i ps ++ y ∷ []) is ∙ sym (take_more ps i p below)))

-- ---- what is given under them

three_labels : (x y z : Label) (rest : List Label) (rows : List Row) → arguments (x ∷ y ∷ z ∷ rest) rows ≡ None
three_labels x y z rest [] = refl
three_labels x y z rest (first ∷ []) = refl
three_labels x y z rest (first ∷ second ∷ []) = refl
three_labels x y z rest (first ∷ second ∷ third ∷ rows) = refl

pub too_many : (x y z : Label) (rest : List Label) (first second : Row) → arguments (x ∷ y ∷ z ∷ rest) (first ∷ second ∷ []) ≡ None
too_many x y z rest first second = refl

pub two_many : (x y : Label) (rest : List Label) (row : Row) → arguments (x ∷ y ∷ rest) (row ∷ []) ≡ None
two_many x y [] row = refl
two_many x y (z ∷ rest) row = refl

-- ---- a literal takes them

there_behind : (found : Bool) (v : Val) (o : Option Val) → found ≡ true → is_there (or_else o (if found then Some v else None)) ≡ true
there_behind true v None is = refl
there_behind true v (Some w) is = refl
there_behind false v o is = absurd cc

there_before : (o p : Option Val) → is_there o ≡ true → is_there (or_else o p) ≡ true
there_before (Some w) p is = refl
there_before None p is = absurd cc

there_first : (x : Label) (v : Val) (rest : Slots) → is_there (look x (more_slots x v rest)) ≡ true
there_first x v rest = there_behind (same_text x x) v (look x rest) (same_itself x)

and_then_all : (a b : Bool) → a ≡ true → b ≡ true → (a && b) ≡ true
and_then_all true true p q = refl
and_then_all true false p q = q
and_then_all false b p q = p

-- each parameter without a default has an argument
all_there : (ps : Params) (args : Slots) → AllByRecursion (λ x. is_there (look x args) ≡ true) (due ps) → all_given ps args ≡ true
all_there no_params args h = refl
all_there (more_params x required ps) args h = and_then_all (is_there (look x args)) (all_given ps args) h.0 (all_there ps args h.1)
all_there (more_params x by_pipe ps) args h = and_then_all (is_there (look x args)) (all_given ps args) h.0 (all_there ps args h.1)
all_there (more_params x (by_value e) ps) args h = all_there ps args h

is_param_behind : (found : Bool) (rest : Bool) → rest ≡ true → (if found then true else rest) ≡ true
is_param_behind true rest is = refl
is_param_behind false rest is = is

params_behind : (y : Label) (d : Default) (ps : Params) (xs : List Label) → AllByRecursion (λ x. is_param x ps ≡ true) xs → AllByRecursion (λ x. is_param x (more_params y d ps) ≡ true) xs
params_behind y d ps [] h = tt
params_behind y d ps (x ∷ xs) h = (is_param_behind (same_text x y) (is_param x ps) h.0, params_behind y d ps xs h.1)

is_first : (x : Label) (d : Default) (ps : Params) → is_param x (more_params x d ps) ≡ true
is_first x d ps = ap (λ b. if b then true else is_param x ps) (same_itself x)

-- they are parameters
due_params : (ps : Params) → AllByRecursion (λ x. is_param x ps ≡ true) (due ps)
due_params no_params = tt
due_params (more_params x required ps) = (is_first x required ps, params_behind x required ps (due ps) (due_params ps))
due_params (more_params x by_pipe ps) = (is_first x by_pipe ps, params_behind x by_pipe ps (due ps) (due_params ps))
due_params (more_params x (by_value e) ps) = params_behind x (by_value e) ps (due ps) (due_params ps)

module _ (ps : Params) where
  abbrev Served : List Label → Type 0
  Served xs = (args : Slots) → AllByRecursion (λ x. is_there (look x args) ≡ true) xs → all_given ps args ≡ true

  abbrev Known : List Label → Type 0
  Known xs = AllByRecursion (λ x. is_param x ps ≡ true) xs

  one_taken : (x : Label) (v : Val) → Known (x ∷ []) → Served (x ∷ []) → takes ps (more_slots x v no_slots) ≡ true
  one_taken x v known served =
      let args = more_slots x v no_slots in
      and_then_all (all_given ps args) (are_params args ps) (served args (there_first x v no_slots, tt)) (and_then_all (is_param x ps) true known.0 refl)

  two_taken : (x y : Label) (v w : Val) → is_param x ps ≡ true → is_param y ps ≡ true
      → ((args : Slots) → is_there (look x args) ≡ true → is_there (look y args) ≡ true → all_given ps args ≡ true) → takes ps (more_slots x v (more_slots y w no_slots)) ≡ true
  two_taken x y v w one other served =
      let args = more_slots x v (more_slots y w no_slots) in
      and_then_all (all_given ps args) (are_params args ps)
      (served args (there_first x v (more_slots y w no_slots)) (there_before (look y (more_slots y w no_slots)) (if same_text y x then Some v else None) (there_first y w no_slots)))
      (and_then_all (is_param x ps) (is_param y ps && true) one (and_then_all (is_param y ps) true other refl))

  pair_taken : (b : Bool) (x y : Label) (first second : Row) → Known (x ∷ y ∷ []) → Served (x ∷ y ∷ [])
      → takes ps (if b then pair_of y x first second else pair_of x y first second) ≡ true
  pair_taken true x y first second known served = two_taken y x (record_of first) (record_of second) known.1.0 known.0 (λ args there here. served args (here, (there, tt)))
  pair_taken false x y first second known served = two_taken x y (record_of first) (record_of second) known.0 known.1.0 (λ args here there. served args (here, (there, tt)))

  these_taken : (xs : List Label) (rows : List Row) (args : Slots) → Known xs → Served xs → Some args ≡ arguments xs rows → takes ps args ≡ true
  these_taken [] rows args known served is = absurd cc
  these_taken (x ∷ []) [] args known served is = absurd cc
  these_taken (x ∷ []) (first ∷ []) args known served is =
      let same : args ≡ more_slots x (record_of first) no_slots = cc is in ap (takes ps) same ∙ one_taken x (record_of first) known served
  these_taken (x ∷ []) (first ∷ second ∷ rows) args known served is = absurd cc
  these_taken (x ∷ y ∷ []) [] args known served is = absurd cc
  these_taken (x ∷ y ∷ []) (first ∷ []) args known served is = absurd cc
  these_taken (x ∷ y ∷ []) (first ∷ second ∷ []) args known served is =
      let b = is_gt (text_cmp x y) in
      let same : args ≡ (if b then pair_of y x first second else pair_of x y first second) = cc is in
      ap (takes ps) same ∙ pair_taken b x y first second known served
  these_taken (x ∷ y ∷ []) (first ∷ second ∷ third ∷ rows) args known served is = absurd cc
  these_taken (x ∷ y ∷ z ∷ xs) rows args known served is = let no_args = is ∙ three_labels x y z xs rows in absurd cc

-- a function literal takes the arguments that rows make
pub rows_taken : (ps : Params) (rows : List Row) (labels : List Label) (args : Option (List Slot)) → labels ≡ due ps → args_in args ≡ arguments labels rows
    → IfSome args (λ ss. takes ps (slots_of (map slot ss)) ≡ true)
rows_taken ps rows labels None same is = tt
rows_taken ps rows labels (Some ss) same is =
    these_taken ps (due ps) rows (slots_of (map slot ss)) (due_params ps) (all_there ps) (is ∙ ap (λ l. arguments l rows) same)

pub rows_given : (ps : Params) (rows : List Row) (labels : List Label) (args : Option (List Slot)) → labels ≡ due ps → args_in args ≡ arguments labels rows → args_in args ≡ arguments (due ps) rows
rows_given ps rows labels args same is = is ∙ ap (λ l. arguments l rows) same
