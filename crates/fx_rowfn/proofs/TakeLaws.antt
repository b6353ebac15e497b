-- Which arguments a call takes, one after another.
use Rattle.std.proofs.Common.{◌≡◌, true, false, List, [], ◌∷◌, ◌++◌, map, refl, sym, ap, ◌∙◌}
use Rattle.std.specs.Prelude.{Bool, ◌&&◌, Some, if◌then◌else◌}
use Rattle.fx_ast.proofs.ShapeLaws.{param_is}
use Rattle.fx_ast.specs.Shape.{default_of, param, params_of}
use Rattle.fx_ast.specs.Tree.{Default, required, by_pipe, by_value, Params, more_params}
use Rattle.fx_ast.specs.declared.expr.Param.{Param}
use Rattle.fx_ast.specs.declared.expr.ParamKind.{ParamKind}
use Rattle.fx_base.specs.Text.{same_text}
use Rattle.fx_meaning.specs.Meaning.{all_given, are_params, has_argument, is_param, pipe_of}
use Rattle.fx_meaning.specs.Native as native
use Rattle.fx_meaning.specs.Value.{Label, Slots}
use Rattle.fx_types.specs.Ground.{listed}
use Rattle.fx_values.proofs.ValueLaws.{slot_is}
use Rattle.fx_values.specs.Shape.{slot, slots_of}
use Rattle.fx_values.specs.declared.value.Slot.{Slot}
use Rattle.fx_rowfn.specs.Calls.{is_piped}

pub given_on : (args : Slots) (p : Param) → has_argument (param p).label (param p).default args ≡ true
    → (rest : List Param) → all_given (params_of (map param (p ∷ rest))) args ≡ all_given (params_of (map param rest)) args
given_on args p is rest = ap (λ b. b && all_given (params_of (map param rest)) args) is

pub given_stops : (args : Slots) (p : Param) → has_argument (param p).label (param p).default args ≡ false
    → (rest : List Param) → all_given (params_of (map param (p ∷ rest))) args ≡ false
given_stops args p is rest = ap (λ b. b && all_given (params_of (map param rest)) args) is

pub param_on : (x : Label) (p : Param) → same_text x p.label ≡ false → (rest : List Param) → is_param x (params_of (map param (p ∷ rest))) ≡ is_param x (params_of (map param rest))
param_on x p is rest =
    ap (λ o. if same_text x o.label then true else is_param x (params_of (map param rest))) (param_is p)
    ∙ ap (λ b. if b then true else is_param x (params_of (map param rest))) is

pub param_found : (x : Label) (p : Param) → same_text x p.label ≡ true → (rest : List Param) → is_param x (params_of (map param (p ∷ rest))) ≡ true
param_found x p is rest =
    ap (λ o. if same_text x o.label then true else is_param x (params_of (map param rest))) (param_is p)
    ∙ ap (λ b. if b then true else is_param x (params_of (map param rest))) is

pub params_on : (ps : Params) (s : Slot) → is_param s.label ps ≡ true → (rest : List Slot) → are_params (slots_of (map slot (s ∷ rest))) ps ≡ are_params (slots_of (map slot rest)) ps
params_on ps s is rest =
    ap (λ o. is_param o.label ps && are_params (slots_of (map slot rest)) ps) (slot_is s) ∙ ap (λ b. b && are_params (slots_of (map slot rest)) ps) is

pub params_stop : (ps : Params) (s : Slot) → is_param s.label ps ≡ false → (rest : List Slot) → are_params (slots_of (map slot (s ∷ rest))) ps ≡ false
params_stop ps s is rest =
    ap (λ o. is_param o.label ps && are_params (slots_of (map slot rest)) ps) (slot_is s) ∙ ap (λ b. b && are_params (slots_of (map slot rest)) ps) is

pub listed_on : (labels : List Label) (s : Slot) → listed s.label labels ≡ true → (rest : List Slot)
    → native.all_listed labels (slots_of (map slot (s ∷ rest))) ≡ native.all_listed labels (slots_of (map slot rest))
listed_on labels s is rest =
    ap (λ o. listed o.label labels && native.all_listed labels (slots_of (map slot rest))) (slot_is s) ∙ ap (λ b. b && native.all_listed labels (slots_of (map slot rest))) is

pub listed_stops : (labels : List Label) (s : Slot) → listed s.label labels ≡ false → (rest : List Slot) → native.all_listed labels (slots_of (map slot (s ∷ rest))) ≡ false
listed_stops labels s is rest =
    ap (λ o. listed o.label labels && native.all_listed labels (slots_of (map slot rest))) (slot_is s) ∙ ap (λ b. b && native.all_listed labels (slots_of (map slot rest))) is

listed_one : (c b first : Bool) → (if c then true else (if first then true else b)) ≡ (if (if c then true else first) then true else b)
listed_one true b first = refl
listed_one false b first = refl

-- a label that is among the first ones, or among the others
pub listed_both : (x : Label) (due free : List Label) → listed x (due ++ free) ≡ (if listed x due then true else listed x free)
listed_both x [] free = refl
listed_both x (a ∷ due) free =
    ap (λ b. if same_text x a then true else b) (listed_both x due free) ∙ listed_one (same_text x a) (listed x free) (listed x due)

pub listed_first : (x : Label) (due free : List Label) (r : Bool) → r ≡ listed x due → r ≡ true → r ≡ listed x (due ++ free)
listed_first x due free r is same = same ∙ sym (listed_both x due free ∙ ap (λ b. if b then true else listed x free) (sym is ∙ same))

pub listed_second : (x : Label) (due free : List Label) (r q : Bool) → r ≡ listed x due → r ≡ false → q ≡ listed x free → q ≡ listed x (due ++ free)
listed_second x due free r q is not last = last ∙ sym (listed_both x due free ∙ ap (λ b. if b then true else listed x free) (sym is ∙ not))

-- a parameter by what it has for a default
pub default_at : (p : Param) (k : ParamKind) (d : Default) → p.default ≡ k → default_of k ≡ d → (param p).default ≡ d
default_at p k d is shown = ap (λ o. o.default) (param_is p) ∙ ap default_of is ∙ shown

pub asked_at : (p : Param) (k : ParamKind) (d : Default) (args : Slots) → p.default ≡ k → default_of k ≡ d → has_argument (param p).label (param p).default args ≡ has_argument p.label d args
asked_at p k d args is shown = λ i. has_argument (param_is p i).label (default_at p k d is shown i) args

-- the parameter that takes what comes by the pipe is the first that does
module _ (p : Param) (rest : List Param) where
  by_default : (d : Default) → (param p).default ≡ d → pipe_of (params_of (map param (p ∷ rest))) ≡ pipe_of (more_params (param p).label d (params_of (map param rest)))
  by_default d is = ap (λ q. pipe_of (more_params (param p).label q (params_of (map param rest)))) is

  passed_by : (d : Default) → (param p).default ≡ d → is_piped d ≡ false → pipe_of (params_of (map param (p ∷ rest))) ≡ pipe_of (params_of (map param rest))
  passed_by required is not = by_default required is
  passed_by by_pipe is not = absurd cc
  passed_by (by_value e) is not = by_default (by_value e) is

  taken_by : (d : Default) → (param p).default ≡ d → is_piped d ≡ true → pipe_of (params_of (map param (p ∷ rest))) ≡ Some (param p).label
  taken_by required is same = absurd cc
  taken_by by_pipe is same = by_default by_pipe is
  taken_by (by_value e) is same = absurd cc

pub pipe_passes : (p : Param) → is_piped (param p).default ≡ false → (rest : List Param) → pipe_of (params_of (map param (p ∷ rest))) ≡ pipe_of (params_of (map param rest))
pipe_passes p not rest = passed_by p rest (param p).default refl not

pub pipe_found : (p : Param) → is_piped (param p).default ≡ true → (rest : List Param) → pipe_of (params_of (map param (p ∷ rest))) ≡ Some p.label
pipe_found p same rest = taken_by p rest (param p).default refl same ∙ ap (λ o. Some o.label) (param_is p)
