use Rattle.std.proofs.Common.{◌+◌, ◌<◌, [], ◌∷◌, ◌++◌, length, take, drop, sym, ap, subst, ◌∙◌, arith, length-drop}
use Rattle.std.specs.List.{All}
use Rattle.fx_scan.specs.Forms.{IsFormed}
use Rattle.fx_scan.specs.Tokens.{start, after, IsTokenList}
use Rattle.fx_scan.specs.Readers.{IsFront}
use Rattle.fx_scan.proofs.ListSteps.{IsSoFar, at_start, blank_step, comment_step, token_step, whole_list, stuck_there}
use Rattle.fx_scan.proofs.OneList.{one_list, no_list}
use Rattle.fx_scan.proofs.TokenLaws.{all_formed, in_order}
use Rattle.fx_scan.proofs.scanner.scan.Goals as goal

pub places-init : goal.places-init
places-init c = record {
  within = omega arith;
  so_far = subst (λ ts. IsSoFar c.as_bytes-bytes.result.now ts 0 start) (sym c.empty-tokens.ensures) (at_start c.as_bytes-bytes.result.now);
}

pub places-preserved-in-Blank : goal.places-preserved-in-Blank
places-preserved-in-Blank c =
    let bytes = c.as_bytes-bytes.result.now in
    let at = c.places.at in
    let front = subst (IsFront c.places.mode (drop at bytes)) c.in-Blank.is (subst (λ x. IsFront c.places.mode x c.front_of.result) c.past-left.ensures c.front_of.ensures) in
    record { within = omega arith; so_far = blank_step bytes c.places.tokens at c.places.mode (omega arith) front c.places.invariant.so_far }

pub places-preserved-in-Comment : goal.places-preserved-in-Comment
places-preserved-in-Comment c =
    let bytes = c.as_bytes-bytes.result.now in
    let at = c.places.at in
    let front = subst (IsFront c.places.mode (drop at bytes)) c.in-Comment.is (subst (λ x. IsFront c.places.mode x c.front_of.result) c.past-left.ensures c.front_of.ensures) in
    let fits = front.0 in
    record {
      within = omega (arith, length-drop at bytes);
      so_far = comment_step bytes c.places.tokens at c.in-Comment.len c.places.mode front.0 front.2 c.places.invariant.so_far;
    }

pub places-preserved : goal.places-preserved
places-preserved c =
    let bytes = c.as_bytes-bytes.result.now in
    let at = c.places.at in
    let taken = c.in-Token.taken in
    let front = subst (IsFront c.places.mode (drop at bytes)) c.in-Token.is (subst (λ x. IsFront c.places.mode x c.front_of.result) c.past-left.ensures c.front_of.ensures) in
    let fits = front.0 in
    let tokens = c.in_ok-push-in-Token.ensures.ok ∙ ap (λ t. c.places.tokens ++ (t ∷ [])) c.token_of.ensures in
    let mode = c.after-mode.ensures ∙ ap (after c.places.mode taken.kind) (c.front.ensures ∙ ap (take taken.len) c.past-left.ensures) in
    let step = token_step bytes c.places.tokens at taken.len c.places.mode taken.kind front.0 front.2 c.places.invariant.so_far in
    record {
      within = omega (arith, length-drop at bytes);
      so_far = subst (λ ts. IsSoFar bytes ts (at + taken.len) c.after-mode.result) (sym tokens) (subst (IsSoFar bytes _ (at + taken.len)) (sym mode) step);
    }

pub returns-in-Nothing-clause-none : goal.returns-in-Nothing-clause-none
returns-in-Nothing-clause-none c at e ts h =
    let bytes = c.as_bytes-bytes.result.now in
    let still = subst (IsFront c.places.mode (drop c.places.at bytes)) c.in-Nothing.is (subst (λ x. IsFront c.places.mode x c.front_of.result) c.past-left.ensures c.front_of.ensures) in
    let some : 0 < length (drop c.places.at bytes) = omega (arith, length-drop c.places.at bytes) in
    no_list bytes c.places.at (stuck_there bytes c.places.tokens c.places.at c.places.mode some still c.places.invariant.so_far) ts
    (subst (λ x. IsTokenList x ts) (sym c.as_bytes-bytes.ensures) h)

pub returns-clause-only : goal.returns-clause-only
returns-clause-only c us h =
    let bytes = c.as_bytes-bytes.result.now in
    one_list bytes c.places.tokens us (whole_list bytes c.places.tokens c.places.at c.places.mode (omega arith) c.places.invariant.so_far)
    (subst (λ x. IsTokenList x us) (sym c.as_bytes-bytes.ensures) h)

pub returns-clause-formed : goal.returns-clause-formed
returns-clause-formed c =
    let bytes = c.as_bytes-bytes.result.now in
    subst (λ x. All (IsFormed x) c.places.tokens) c.as_bytes-bytes.ensures
    (all_formed bytes c.places.tokens (whole_list bytes c.places.tokens c.places.at c.places.mode (omega arith) c.places.invariant.so_far))

pub returns-clause-in_order : goal.returns-clause-in_order
returns-clause-in_order c =
    let bytes = c.as_bytes-bytes.result.now in
    in_order bytes c.places.tokens (whole_list bytes c.places.tokens c.places.at c.places.mode (omega arith) c.places.invariant.so_far)
