-- Texts and patterns end where the reader finds the end.
use Rattle.std.proofs.Common.{◌≡◌, ℕ, suc, ◌+◌, ◌<◌, ◌≤◌, ◌==◌, Bool, true, false, [], ◌∷◌, ◌++◌, length, drop, get_or, Option, None, Some, refl, sym, ap, subst, ◌∙◌, arith}
use Rattle.std.proofs.lemmas.Bool.Decides.{nat_tests}
use Rattle.std.proofs.lemmas.Bool.{eqb-true}
use Rattle.std.proofs.lemmas.List.{drop_more, drop_all}
use Rattle.fx_scan.specs.declared.enclosed.End.{End}
use Rattle.fx_scan.specs.declared.enclosed.Open.{Open}
use Rattle.fx_scan.specs.declared.enclosed.Open.TheVariants as inside
use Rattle.fx_scan.specs.declared.enclosed.Step.{Step}
use Rattle.fx_scan.specs.declared.enclosed.Step.TheVariants.{Goes, Ends, Breaks}
use Rattle.fx_scan.specs.Forms.{Bytes, begins, is_escape, is_inside, is_open_brace, is_plain, is_line_feed, Piece, closed, opened, escape, dollar, inside as itself, Closed, slash, pair, plain}
use Rattle.fx_scan.specs.Readers.{step_text, step_pattern, next_step, ended, end_of}
use Rattle.fx_scan.proofs.Runs.{by_bool}

-- the end of the form, so many bytes after the place
abbrev pub end_at : Bool → ℕ → Option End
end_at opens n = Some (record { opens = opens; len = n })

at_len : (opens : Bool) (m n : ℕ) → m ≡ n → end_at opens m ≡ end_at opens n
at_len opens m n e = ap (end_at opens) e

same_after_dollar : (u z : Bytes) (n : ℕ) → 0 < length u → begins is_open_brace u ≡ false → end_of (u ++ z) inside.Dollar n ≡ end_of (u ++ z) inside.Text n
unfolding end_of is_open_brace
same_after_dollar [] z n some h = absurd (omega arith)
same_after_dollar (b ∷ u) z n some h = rw h refl

some_piece : {opens : Bool} {u : Bytes} → Piece opens u → 0 < length u
some_piece closed = omega arith
some_piece opened = omega arith
some_piece (escape b u h p) = omega arith
some_piece (dollar u h p) = omega arith
some_piece (itself b u h p) = omega arith

itself_goes : (b : ℕ) → is_inside b ≡ true → step_text b ≡ Goes inside.Text
unfolding is_inside step_text
itself_goes b h =
    let quote : (b == 34) ≡ false = grind (arith, nat_tests, h) in
    let back : (b == 92) ≡ false = grind (arith, nat_tests, h) in
    let money : (b == 36) ≡ false = grind (arith, nat_tests, h) in
    rw (quote, back, money) refl

-- a piece ends where it ends
pub piece_end : {opens : Bool} {u : Bytes} → Piece opens u → (z : Bytes) (n : ℕ) → end_of (u ++ z) inside.Text n ≡ end_at opens (n + length u)
unfolding end_of step_text
piece_end closed z n = at_len false (n + 1) (n + 1) refl
piece_end opened z n = at_len true (n + 1 + 1) (n + 2) (omega arith)
piece_end {opens = opens} (escape b u h p) z n = rw h (piece_end p z (n + 1 + 1) ∙ at_len opens (n + 1 + 1 + length u) (n + suc (suc (length u))) (omega arith))
piece_end {opens = opens} (dollar u h p) z n =
    same_after_dollar u z (n + 1) (some_piece p) h ∙ piece_end p z (n + 1) ∙ at_len opens (n + 1 + length u) (n + suc (length u)) (omega arith)
piece_end {opens = opens} (itself b u h p) z n =
    ap (λ s. ended s (λ next. end_of (u ++ z) next (n + 1)) (n + 1)) (itself_goes b h)
    ∙ piece_end p z (n + 1) ∙ at_len opens (n + 1 + length u) (n + suc (length u)) (omega arith)

plain_goes : (b : ℕ) → is_plain b ≡ true → step_pattern b ≡ Goes inside.Pattern
unfolding is_plain step_pattern
plain_goes b h =
    let stroke : (b == 47) ≡ false = grind (arith, nat_tests, h) in
    let back : (b == 92) ≡ false = grind (arith, nat_tests, h) in
    let feed : (b == 10) ≡ false = grind (arith, nat_tests, h) in
    rw (stroke, back, feed) refl

pub pattern_end : {u : Bytes} → Closed u → (z : Bytes) (n : ℕ) → end_of (u ++ z) inside.Pattern n ≡ end_at false (n + length u)
unfolding end_of step_pattern is_line_feed
pattern_end slash z n = at_len false (n + 1) (n + 1) refl
pattern_end (pair b u h p) z n = rw h (pattern_end p z (n + 1 + 1) ∙ at_len false (n + 1 + 1 + length u) (n + suc (suc (length u))) (omega arith))
pattern_end (plain b u h p) z n =
    ap (λ s. ended s (λ next. end_of (u ++ z) next (n + 1)) (n + 1)) (plain_goes b h)
    ∙ pattern_end p z (n + 1) ∙ at_len false (n + 1 + length u) (n + suc (length u)) (omega arith)

-- ---- and what is read is a piece, or a pattern

-- with the byte that is open before it
abbrev pub IsClosed : Open → Bool → Bytes → Type 0
IsClosed inside.Text opens u = Piece opens u
IsClosed inside.Escape opens u = Piece opens (92 ∷ u)
IsClosed inside.Dollar opens u = Piece opens (36 ∷ u)
IsClosed inside.Pattern opens u = (opens ≡ false) × Closed u
IsClosed inside.Backslash opens u = (opens ≡ false) × Closed (92 ∷ u)

pub record IsEnd (w : Bytes) (o : Open) (n : ℕ) (e : End) : Type 0 where
  pub front : Bytes
  pub rest : Bytes
  pub split : w ≡ front ++ rest
  pub len : e.len ≡ n + length front
  pub form : IsClosed o e.opens front

-- a byte more in front
more : (b : ℕ) (w : Bytes) (o onward : Open) (n : ℕ) (e : End) → ((u : Bytes) → IsClosed onward e.opens u → IsClosed o e.opens (b ∷ u))
    → IsEnd w onward (n + 1) e → IsEnd (b ∷ w) o n e
more b w o onward n e wider h =
    let len = h.len in
    record { front = b ∷ h.front; rest = h.rest; split = ap (λ r. b ∷ r) h.split; len = omega arith; form = wider h.front h.form }

-- the last byte
last : (b : ℕ) (w : Bytes) (o : Open) (n : ℕ) (opens : Bool) (e : End) → IsClosed o opens (b ∷ []) → end_at opens (n + 1) ≡ Some e → IsEnd (b ∷ w) o n e
last b w o n opens e form h =
    let is : record { opens = opens; len = n + 1 } ≡ e = cc in
    subst (λ x. IsEnd (b ∷ w) o n x) is (record { front = b ∷ []; rest = w; split = refl; len = refl; form = form })

not_brace : (b : ℕ) (u : Bytes) → (b == 123) ≡ false → begins is_open_brace (b ∷ u) ≡ false
unfolding is_open_brace
not_brace b u h = h

inside_is : (b : ℕ) → (b == 34) ≡ false → (b == 92) ≡ false → (b == 36) ≡ false → is_inside b ≡ true
unfolding is_inside
inside_is b e f g = rw (e, f, g) refl

plain_is : (b : ℕ) → (b == 47) ≡ false → (b == 92) ≡ false → (b == 10) ≡ false → is_plain b ≡ true
unfolding is_plain
plain_is b e f g = rw (e, f, g) refl

feed_is : (b : ℕ) → (b == 10) ≡ false → is_line_feed b ≡ false
unfolding is_line_feed
feed_is b e = e

-- after a `$` a piece goes on as it would without it, but for `{`
text_back : (w : Bytes) (b : ℕ) (n : ℕ) (e : End)
    → ((o : Open) → end_of w o (n + 1) ≡ Some e → IsEnd w o (n + 1) e)
    → ended (step_text b) (λ next. end_of w next (n + 1)) (n + 1) ≡ Some e → IsEnd (b ∷ w) inside.Text n e
unfolding step_text
text_back w b n e back h = by_bool (b == 34)
    (λ quote. rw (eqb-true b 34 quote) (last 34 w inside.Text n false e closed (rw quote at h)))
    (λ no. by_bool (b == 92)
    (λ stroke. rw (eqb-true b 92 stroke) (more 92 w inside.Text inside.Escape n e (λ u p. p) (back inside.Escape (rw (no, stroke) at h))))
    (λ not_stroke. by_bool (b == 36)
    (λ money. rw (eqb-true b 36 money) (more 36 w inside.Text inside.Dollar n e (λ u p. p) (back inside.Dollar (rw (no, not_stroke, money) at h))))
    (λ not_money. more b w inside.Text inside.Text n e (λ u p. itself b u (inside_is b no not_stroke not_money) p) (back inside.Text (rw (no, not_stroke, not_money) at h)))))

pattern_back : (w : Bytes) (b : ℕ) (n : ℕ) (e : End)
    → ((o : Open) → end_of w o (n + 1) ≡ Some e → IsEnd w o (n + 1) e)
    → ended (step_pattern b) (λ next. end_of w next (n + 1)) (n + 1) ≡ Some e → IsEnd (b ∷ w) inside.Pattern n e
unfolding step_pattern
pattern_back w b n e back h = by_bool (b == 47)
    (λ stroke. rw (eqb-true b 47 stroke) (last 47 w inside.Pattern n false e (refl, slash) (rw stroke at h)))
    (λ no. by_bool (b == 92)
    (λ back_stroke. rw (eqb-true b 92 back_stroke) (more 92 w inside.Pattern inside.Backslash n e (λ u p. p) (back inside.Backslash (rw (no, back_stroke) at h))))
    (λ not_back. by_bool (b == 10)
    (λ feed. let f = rw (no, not_back, feed) at h in absurd cc)
    (λ not_feed. more b w inside.Pattern inside.Pattern n e (λ u p. (p.0, plain b u (plain_is b no not_back not_feed) p.1)) (back inside.Pattern (rw (no, not_back, not_feed) at h)))))

-- a text that is no `{`, after a `$`
after_front : (b : ℕ) (w : Bytes) (n : ℕ) (e : End) → (b == 123) ≡ false → (u z : Bytes) → b ∷ w ≡ u ++ z → e.len ≡ n + length u → Piece e.opens u → IsEnd (b ∷ w) inside.Dollar n e
after_front b w n e other [] z split len form = absurd (omega (arith, some_piece form))
after_front b w n e other (c ∷ u) z split len form =
    let first : b ≡ c = cc in
    record { front = c ∷ u; rest = z; split = split; len = len; form = dollar (c ∷ u) (not_brace c u (rw first at other)) form }

after_money : (b : ℕ) (w : Bytes) (n : ℕ) (e : End) → (b == 123) ≡ false → IsEnd (b ∷ w) inside.Text n e → IsEnd (b ∷ w) inside.Dollar n e
after_money b w n e other h = after_front b w n e other h.front h.rest h.split h.len h.form

pub end_back : (w : Bytes) (o : Open) (n : ℕ) (e : End) → end_of w o n ≡ Some e → IsEnd w o n e
unfolding end_of
end_back [] o n e h = absurd cc
end_back (b ∷ w) inside.Text n e h = text_back w b n e (λ o k. end_back w o (n + 1) e k) h
end_back (b ∷ w) inside.Escape n e h = by_bool (is_escape b)
    (λ yes. more b w inside.Escape inside.Text n e (λ u p. escape b u yes p) (end_back w inside.Text (n + 1) e (rw yes at h)))
    (λ no. let f = rw no at h in absurd cc)
end_back (b ∷ w) inside.Dollar n e h = by_bool (b == 123)
    (λ yes. rw (eqb-true b 123 yes) (last 123 w inside.Dollar n true e opened (rw yes at h)))
    (λ no. after_money b w n e no (text_back w b n e (λ o k. end_back w o (n + 1) e k) (rw no at h)))
end_back (b ∷ w) inside.Pattern n e h = pattern_back w b n e (λ o k. end_back w o (n + 1) e k) h
end_back (b ∷ w) inside.Backslash n e h = by_bool (b == 10)
    (λ yes. let f = rw yes at h in absurd cc)
    (λ no. more b w inside.Backslash inside.Pattern n e (λ u p. (p.0, pair b u (feed_is b no) p.1)) (end_back w inside.Pattern (n + 1) e (rw no at h)))

-- ---- for the loop over a text's bytes

end_step : (w : Bytes) (k : ℕ) (o : Open) (s : Step) → k < length w → next_step o (get_or w k 0) ≡ s
    → end_of (drop k w) o k ≡ ended s (λ onward. end_of (drop (k + 1) w) onward (k + 1)) (k + 1)
unfolding end_of
end_step w k o s h e = ap (λ r. end_of r o k) (drop_more w k 0 h) ∙ ap (λ x. ended x (λ onward. end_of (drop (k + 1) w) onward (k + 1)) (k + 1)) e

pub end_goes : (w : Bytes) (k : ℕ) (o onward : Open) (x : Option End) → k < length w → next_step o (get_or w k 0) ≡ Goes onward
    → x ≡ end_of (drop k w) o k → x ≡ end_of (drop (k + 1) w) onward (k + 1)
end_goes w k o onward x h e is = is ∙ end_step w k o (Goes onward) h e

pub end_ends : (w : Bytes) (k : ℕ) (o : Open) (opens : Bool) (x : Option End) → k < length w → next_step o (get_or w k 0) ≡ Ends opens
    → x ≡ end_of (drop k w) o k → end_at opens (k + 1) ≡ x
end_ends w k o opens x h e is = sym (is ∙ end_step w k o (Ends opens) h e)

pub end_breaks : (w : Bytes) (k : ℕ) (o : Open) (x : Option End) → k < length w → next_step o (get_or w k 0) ≡ Breaks
    → x ≡ end_of (drop k w) o k → None ≡ x
end_breaks w k o x h e is = sym (is ∙ end_step w k o Breaks h e)

pub end_none : (w : Bytes) (k : ℕ) (o : Open) (x : Option End) → length w ≤ k → x ≡ end_of (drop k w) o k → None ≡ x
unfolding end_of
end_none w k o x h is = sym (is ∙ ap (λ r. end_of r o k) (drop_all k w h))
