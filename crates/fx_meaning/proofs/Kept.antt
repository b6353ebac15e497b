-- A relation between ends that holds between calls holds between all that is evaluated over them.
use Rattle.std.proofs.Common.{ℕ, Bool, true, false, List, []}
use Rattle.std.specs.Prelude.{Option, None, Some, ℤ, if◌then◌else◌}
use Rattle.fx_ast.specs.Places.{first_place}
use Rattle.fx_ast.specs.Tree.{Tree, tree, Shape, int, time, span, text, pattern, name, paren, array, rec, fun, call, pipe, member, index, chain, prefix, if_then, Trees, no_trees, more_trees, Parts, no_parts, piece, hole, Props, no_props, more_props, Params, no_params, more_params, Default, required, by_pipe, by_value, Links, no_links, more_links}
use Rattle.fx_base.specs.declared.place.Place.{Place}
use Rattle.fx_value.specs.Ends.{End, Stuck, and_then}
use Rattle.fx_meaning.specs.declared.setting.Setting.{Setting}
use Rattle.fx_meaning.specs.Ends.{◌>>=◌, pure, found}
use Rattle.fx_meaning.specs.Forms.{cell_in, fields_in, items_in, truth_in}
use Rattle.fx_meaning.specs.Meaning.{Calls, Tests, takes, applied_to, piped_by, piped_to, pipe_label, numbered, named, given_or, means, means_shape, means_trees, means_props, means_pipes, means_pipe, means_piped, means_parts, means_links, means_lets, bound, given, entered}
use Rattle.fx_meaning.specs.Native.{takes_native}
use Rattle.fx_meaning.specs.Natives.{native_call}
use Rattle.fx_meaning.specs.Operators.{behind, decides, indexed, member_of, operate, prefixed, printed, text_made}
use Rattle.fx_meaning.specs.Value as value
use Rattle.fx_meaning.specs.Value.{Label, Val, Vals, no_vals, Slots, no_slots, look, is_there, push, push_val}

module _ (R : (A : Type 0) → End A → End A → Type 0)
    (same : (A : Type 0) (e : End A) → R A e e)
    (along : (A B : Type 0) (d e : End A) (f g : A → End B) → R A d e → ((v : A) → R B (f v) (g v)) → R B (and_then d f) (and_then e g))
    (c d : Calls) where
  -- the calls are so related
  abbrev pub AreKept : Type 0
  AreKept = (ps : Params) (lets : Props) (e : Tree) (captured : Slots) (setting : Setting) (args : Slots)
      → R Val (c ps lets e captured setting args) (d ps lets e captured setting args)

  either : {A : Type 0} (b : Bool) (x y z w : End A) → R A x y → R A z w → R A (if b then x else z) (if b then y else w)
  either true x y z w h k = h
  either false x y z w h k = k

  module _ (kept : AreKept) where
    pub applied_kept : (place : Place) (moment : ℤ) (args : Slots) (v : Val) → R Val (applied_to c place moment args v) (applied_to d place moment args v)
    applied_kept place moment args (value.closure ps lets e captured setting) =
        either (takes ps args) (c ps lets e captured setting args) (d ps lets e captured setting args) Stuck Stuck (kept ps lets e captured setting args) (same _ Stuck)
    applied_kept place moment args (value.native g) = same _ (applied_to c place moment args (value.native g))
    applied_kept place moment args (value.cell a) = same _ Stuck
    applied_kept place moment args (value.span a) = same _ Stuck
    applied_kept place moment args (value.pattern a) = same _ Stuck
    applied_kept place moment args (value.array a) = same _ Stuck
    applied_kept place moment args (value.rec a) = same _ Stuck
    applied_kept place moment args (value.in_package a) = same _ Stuck
    applied_kept place moment args (value.stream a) = same _ Stuck
    applied_kept place moment args (value.shown a b s) = same _ Stuck

    piped_kept : (place : Place) (moment : ℤ) (args : Slots) (input : Val) (label : Option Label) (v : Val)
        → R Val (piped_by c place moment args input label v) (piped_by d place moment args input label v)
    piped_kept place moment args input None v = same _ Stuck
    piped_kept place moment args input (Some x) v =
        either (is_there (look x args)) Stuck Stuck (applied_to c place moment (push args x input) v) (applied_to d place moment (push args x input) v)
        (same _ Stuck) (applied_kept place moment (push args x input) v)

    default_kept : (argument : Option Val) (x y : End Val) → R Val x y → R Val (given_or argument x) (given_or argument y)
    default_kept (Some v) x y h = same _ (pure v)
    default_kept None x y h = h

    module _ (test : Tests) (setting : Setting) where
      mutual
        pub tree_kept : (e : Tree) (env : Slots) → R Val (means test c setting e env) (means test d setting e env)
        tree_kept (tree place s) env = shape_kept place s env

        shape_kept : (place : Place) (s : Shape) (env : Slots) → R Val (means_shape test c setting place s env) (means_shape test d setting place s env)
        shape_kept place (int n) env = same _ (means_shape test c setting place (int n) env)
        shape_kept place (time t) env = same _ (means_shape test c setting place (time t) env)
        shape_kept place (span s) env = same _ (means_shape test c setting place (span s) env)
        shape_kept place (text ps) env = along _ _ _ _ _ _ (parts_kept ps env (Some [])) (λ r. same _ (text_made place r))
        shape_kept place (pattern s) env = same _ (means_shape test c setting place (pattern s) env)
        shape_kept place (name x) env = same _ (means_shape test c setting place (name x) env)
        shape_kept place (paren e) env = tree_kept e env
        shape_kept place (array es) env = along _ _ _ _ _ _ (trees_kept es env no_vals) (λ vs. same _ (pure (value.array vs)))
        shape_kept place (rec None ps) env = along _ _ _ _ _ _ (props_kept ps env no_slots) (λ fields. same _ (pure (value.rec fields)))
        shape_kept place (rec (Some x) ps) env =
            along _ _ _ _ _ _ (along _ _ _ _ _ _ (same _ (found (named x env) >>= fields_in)) (λ fields. props_kept ps env fields)) (λ fields. same _ (pure (value.rec fields)))
        shape_kept place (fun ps lets e) env = same _ (means_shape test c setting place (fun ps lets e) env)
        shape_kept place (call e ps) env =
            along _ _ _ _ _ _ (tree_kept e env) (λ v. along _ _ _ _ _ _ (props_kept ps env no_slots) (λ args. applied_kept (first_place e) setting.moment args v))
        shape_kept place (pipe e es) env = along _ _ _ _ _ _ (tree_kept e env) (λ v. pipes_kept es env v)
        shape_kept place (member e x) env = along _ _ _ _ _ _ (tree_kept e env) (λ v. same _ (member_of v x))
        shape_kept place (index e at) env =
            along _ _ _ _ _ _ (tree_kept e env)
            (λ v. along _ _ _ _ _ _ (tree_kept at env) (λ w. same _ (items_in v >>= (λ vs. cell_in w >>= indexed place vs))))
        shape_kept place (chain e ls) env = along _ _ _ _ _ _ (tree_kept e env) (λ v. links_kept ls env v)
        shape_kept place (prefix sign e) env = along _ _ _ _ _ _ (tree_kept e env) (λ v. same _ (prefixed place sign v))
        shape_kept place (if_then a b e) env =
            along _ _ _ _ _ _ (along _ _ _ _ _ _ (tree_kept a env) (λ v. same _ (truth_in v)))
            (λ yes. either yes (means test c setting b env) (means test d setting b env) (means test c setting e env) (means test d setting e env) (tree_kept b env) (tree_kept e env))

        trees_kept : (es : Trees) (env : Slots) (vs : Vals) → R Vals (means_trees test c setting es env vs) (means_trees test d setting es env vs)
        trees_kept no_trees env vs = same _ (pure vs)
        trees_kept (more_trees e es) env vs = along _ _ _ _ _ _ (tree_kept e env) (λ v. trees_kept es env (push_val vs v))

        props_kept : (ps : Props) (env fields : Slots) → R Slots (means_props test c setting ps env fields) (means_props test d setting ps env fields)
        props_kept no_props env fields = same _ (pure fields)
        props_kept (more_props x e ps) env fields = along _ _ _ _ _ _ (tree_kept e env) (λ v. props_kept ps env (push fields x v))

        pipes_kept : (es : Trees) (env : Slots) (v : Val) → R Val (means_pipes test c setting es env v) (means_pipes test d setting es env v)
        pipes_kept no_trees env v = same _ (pure v)
        pipes_kept (more_trees e es) env v = along _ _ _ _ _ _ (pipe_kept e env v) (λ w. pipes_kept es env w)

        pipe_kept : (e : Tree) (env : Slots) (v : Val) → R Val (means_pipe test c setting e env v) (means_pipe test d setting e env v)
        pipe_kept (tree place s) env v = piped_shape_kept s env v

        piped_shape_kept : (s : Shape) (env : Slots) (v : Val) → R Val (means_piped test c setting s env v) (means_piped test d setting s env v)
        piped_shape_kept (call e ps) env v =
            along _ _ _ _ _ _ (tree_kept e env)
            (λ f. along _ _ _ _ _ _ (props_kept ps env no_slots) (λ args. piped_kept (first_place e) setting.moment args v (pipe_label f) f))
        piped_shape_kept (int n) env v = same _ Stuck
        piped_shape_kept (time t) env v = same _ Stuck
        piped_shape_kept (span s) env v = same _ Stuck
        piped_shape_kept (text ps) env v = same _ Stuck
        piped_shape_kept (pattern s) env v = same _ Stuck
        piped_shape_kept (name x) env v = same _ Stuck
        piped_shape_kept (paren e) env v = same _ Stuck
        piped_shape_kept (array es) env v = same _ Stuck
        piped_shape_kept (rec base ps) env v = same _ Stuck
        piped_shape_kept (fun ps lets e) env v = same _ Stuck
        piped_shape_kept (pipe e es) env v = same _ Stuck
        piped_shape_kept (member e x) env v = same _ Stuck
        piped_shape_kept (index e at) env v = same _ Stuck
        piped_shape_kept (chain e ls) env v = same _ Stuck
        piped_shape_kept (prefix sign e) env v = same _ Stuck
        piped_shape_kept (if_then a b e) env v = same _ Stuck

        parts_kept : (ps : Parts) (env : Slots) (r : Option (List ℕ)) → R (Option (List ℕ)) (means_parts test c setting ps env r) (means_parts test d setting ps env r)
        parts_kept no_parts env r = same _ (pure r)
        parts_kept (piece s ps) env r = parts_kept ps env (behind r (Some s))
        parts_kept (hole e ps) env r =
            along _ _ _ _ _ _ (along _ _ _ _ _ _ (tree_kept e env) (λ v. same _ (cell_in v))) (λ a. parts_kept ps env (behind r (printed a)))

        links_kept : (ls : Links) (env : Slots) (v : Val) → R Val (means_links test c setting ls env v) (means_links test d setting ls env v)
        links_kept no_links env v = same _ (pure v)
        links_kept (more_links place op e ls) env v =
            along _ _ _ _ _ _
            (either (decides op v) (pure v) (pure v) (means test c setting e env >>= operate test place op v) (means test d setting e env >>= operate test place op v)
            (same _ (pure v)) (along _ _ _ _ _ _ (tree_kept e env) (λ w. same _ (operate test place op v w))))
            (λ w. links_kept ls env w)

        lets_kept : (ps : Props) (env : Slots) → R Slots (means_lets test c setting ps env) (means_lets test d setting ps env)
        lets_kept no_props env = same _ (pure env)
        lets_kept (more_props x e ps) env = along _ _ _ _ _ _ (tree_kept e env) (λ v. lets_kept ps (push env x v))

        bound_kept : (ps : Params) (captured args env : Slots) → R Slots (bound test c setting ps captured args env) (bound test d setting ps captured args env)
        bound_kept no_params captured args env = same _ (pure env)
        bound_kept (more_params x p ps) captured args env =
            along _ _ _ _ _ _ (given_kept p captured (look x args)) (λ v. bound_kept ps captured args (push env x v))

        given_kept : (p : Default) (captured : Slots) (argument : Option Val) → R Val (given test c setting p captured argument) (given test d setting p captured argument)
        given_kept required captured argument = same _ (found argument)
        given_kept by_pipe captured argument = same _ (found argument)
        given_kept (by_value e) captured argument = default_kept argument (means test c setting e captured) (means test d setting e captured) (tree_kept e captured)

      pub entered_kept : (ps : Params) (lets : Props) (e : Tree) (captured args : Slots)
          → R Val (entered test c setting ps lets e captured args) (entered test d setting ps lets e captured args)
      entered_kept ps lets e captured args =
          along _ _ _ _ _ _ (along _ _ _ _ _ _ (bound_kept ps captured args captured) (λ env. lets_kept lets env)) (λ env. tree_kept e env)
