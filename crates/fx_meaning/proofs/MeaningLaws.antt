-- Laws of the meaning: an end stays under each greater limit, and there is one at most.
use Rattle.std.proofs.Common.{◌≡◌, ℕ, zero, suc, ◌≤◌, arith, refl, List}
use Rattle.std.specs.Prelude.{ℤ, pos, Option, None, Some}
use Rattle.fx_ast.specs.Tree.{Tree, Params, Props}
use Rattle.fx_base.specs.declared.place.Place.{Place}
use Rattle.fx_value.proofs.Ends.{extends_same, in_time_same, limited_cut, steady_same, steady_then}
use Rattle.fx_value.specs.Ends.{Stuck, IsLimited}
use Rattle.fx_value.specs.Works.{Extends, InTime, IsSteady}
use Rattle.fx_meaning.specs.declared.setting.Setting.{Setting}
use Rattle.fx_meaning.specs.Meaning.{Tests, applied_to, entered, means, nested, meaning, call_meaning}
use Rattle.fx_value.specs.declared.answer.Answer.{Answer}
use Rattle.fx_meaning.specs.Rows.{Row, arguments, answer_of, called_with, due, nowhere, row_called, row_meaning}
use Rattle.fx_meaning.specs.Value as value
use Rattle.fx_meaning.specs.Value.{Slots, Val}
use Rattle.fx_meaning.proofs.EndLaws.{extends_later, extends_then, in_time_then, in_time_tick, in_no_time}
use Rattle.fx_meaning.proofs.Kept.{applied_kept, tree_kept, entered_kept}

module _ (test : Tests) where
  nested_extends : (m n : ℕ) → m ≤ n → (ps : Params) (lets : Props) (e : Tree) (captured : Slots) (setting : Setting) (args : Slots)
      → Extends (nested test m ps lets e captured setting args) (nested test n ps lets e captured setting args)
  nested_extends zero n below ps lets e captured setting args = tt
  nested_extends (suc m) zero below ps lets e captured setting args = absurd (omega arith)
  nested_extends (suc m) (suc n) below ps lets e captured setting args =
      extends_later 1 (entered test (nested test m) setting ps lets e captured args) (entered test (nested test n) setting ps lets e captured args)
      (entered_kept (λ A d e. Extends d e) (λ A e. extends_same e) (λ A B d e f g. extends_then d e f g) (nested test m) (nested test n) (nested_extends m n (omega arith)) test setting ps lets e captured args)

  nested_in_time : (m n : ℕ) (ps : Params) (lets : Props) (e : Tree) (captured : Slots) (setting : Setting) (args : Slots)
      → InTime n (nested test m ps lets e captured setting args) (nested test n ps lets e captured setting args)
  nested_in_time zero n ps lets e captured setting args = tt
  nested_in_time (suc m) zero ps lets e captured setting args =
      in_no_time (entered test (nested test m) setting ps lets e captured args) (nested test zero ps lets e captured setting args)
  nested_in_time (suc m) (suc n) ps lets e captured setting args =
      in_time_tick n (entered test (nested test m) setting ps lets e captured args) (entered test (nested test n) setting ps lets e captured args)
      (entered_kept (λ A d e. InTime n d e) (λ A e. in_time_same n e) (λ A B d e f g. in_time_then n d e f g) (nested test m) (nested test n) (nested_in_time m n) test setting ps lets e captured args)

  pub tree_steady : (setting : Setting) (e : Tree) (env : Slots) → IsSteady (λ n. means test (nested test n) setting e env)
  tree_steady setting e env = record {
    extends = λ m n below. tree_kept (λ A d e. Extends d e) (λ A e. extends_same e) (λ A B d e f g. extends_then d e f g) (nested test m) (nested test n) (nested_extends m n below) test setting e env;
    in_time = λ m n. tree_kept (λ A d e. InTime n d e) (λ A e. in_time_same n e) (λ A B d e f g. in_time_then n d e f g) (nested test m) (nested test n) (nested_in_time m n) test setting e env;
  }

  pub call_steady : (place : Place) (moment : ℤ) (args : Slots) (v : Val) → IsSteady (λ n. applied_to (nested test n) place moment args v)
  call_steady place moment args v = record {
    extends = λ m n below. applied_kept (λ A d e. Extends d e) (λ A e. extends_same e) (λ A B d e f g. extends_then d e f g) (nested test m) (nested test n) (nested_extends m n below) place moment args v;
    in_time = λ m n. applied_kept (λ A d e. InTime n d e) (λ A e. in_time_same n e) (λ A B d e f g. in_time_then n d e f g) (nested test m) (nested test n) (nested_in_time m n) place moment args v;
  }

  pub meaning_limited : (setting : Setting) (e : Tree) (env : Slots) → IsLimited (meaning test setting e env)
  meaning_limited setting e env = limited_cut (λ n. means test (nested test n) setting e env) (tree_steady setting e env)

  pub call_limited : (place : Place) (moment : ℤ) (args : Slots) (v : Val) → IsLimited (call_meaning test place moment args v)
  call_limited place moment args v = limited_cut (λ n. applied_to (nested test n) place moment args v) (call_steady place moment args v)

-- ---- row functions

module _ (test : Tests) (v : Val) where
  called_steady : (args : Option Slots) → IsSteady (λ n. called_with (nested test n) v args)
  called_steady None = steady_same {A = Val} Stuck
  called_steady (Some args) = call_steady test nowhere (pos 0) args v

  row_steady : (ps : Params) (rows : List Row) → IsSteady (λ n. row_called (nested test n) v ps rows)
  row_steady ps rows =
      steady_then (λ n. called_with (nested test n) v (arguments (due ps) rows)) (λ w n. answer_of w) (called_steady (arguments (due ps) rows))
      (λ w. steady_same (answer_of w))

stuck_limited : {A : Type 0} → IsLimited {A = A} (λ _. Stuck)
stuck_limited = record { within = λ limit. tt; stays = λ least limit below. refl }

pub row_limited : (test : Tests) (v : Val) (rows : List Row) → IsLimited (row_meaning test v rows)
row_limited test (value.closure ps lets e captured setting) rows =
    limited_cut (λ n. row_called (nested test n) (value.closure ps lets e captured setting) ps rows)
    (row_steady test (value.closure ps lets e captured setting) ps rows)
row_limited test (value.cell a) rows = stuck_limited {A = Answer}
row_limited test (value.span a) rows = stuck_limited {A = Answer}
row_limited test (value.pattern a) rows = stuck_limited {A = Answer}
row_limited test (value.array a) rows = stuck_limited {A = Answer}
row_limited test (value.rec a) rows = stuck_limited {A = Answer}
row_limited test (value.native a) rows = stuck_limited {A = Answer}
row_limited test (value.in_package a) rows = stuck_limited {A = Answer}
row_limited test (value.stream a) rows = stuck_limited {A = Answer}
row_limited test (value.shown a b c) rows = stuck_limited {A = Answer}
