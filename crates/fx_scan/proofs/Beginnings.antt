-- Blanks, comments and tokens begin otherwise, and each settles where it ends.
use Rattle.std.proofs.Common.{◌≡◌, ℕ, ◌<◌, ◌==◌, true, false, [], ◌∷◌, ◌++◌, length, refl, sym, ap, subst, ◌∙◌, arith}
use Rattle.std.specs.Prelude.{◌||◌, not}
use Rattle.std.specs.List.{prefix_len}
use Rattle.std.proofs.lemmas.Bool.{and_parts, or_parts, not-true, eqb-true}
use Rattle.std.proofs.lemmas.Bool.Decides.{nat_tests}
use Rattle.fx_scan.specs.declared.group.Group.TheVariants as group
use Rattle.fx_scan.specs.declared.mode.Mode.{Mode}
use Rattle.fx_scan.specs.declared.token.TokenKind.{TokenKind}
use Rattle.fx_scan.specs.declared.token.TokenKind.TheVariants as kind
use Rattle.fx_scan.specs.Forms.{Bytes, begins, is_letter, is_digit, is_name_start, is_slash, is_line_feed, Form}
use Rattle.fx_scan.specs.Tokens.{is_blank, begins_comment, IsComment, FormAt, IsToken}
use Rattle.fx_scan.specs.Readers.{group_by}
use Rattle.fx_scan.proofs.Runs.{by_bool, run_is, same_front}
use Rattle.fx_scan.proofs.TableLemmas.{is_mark, symbol_begins}
use Rattle.fx_scan.proofs.KindLemmas.{group_of, one_kind}
use Rattle.fx_scan.proofs.FoundLemmas.{of_group}

blank_group : (m : Mode) (b : ℕ) → is_blank b ≡ true → group_by m b ≡ group.Symbols
unfolding group_by is_blank is_name_start is_letter is_digit is_slash
blank_group m b h = by_bool (b == 32) (λ yes. subst (λ x. group_by m x ≡ group.Symbols) (sym (eqb-true b 32 yes)) refl)
    (λ no_space. by_bool (b == 9) (λ yes. subst (λ x. group_by m x ≡ group.Symbols) (sym (eqb-true b 9 yes)) refl)
    (λ no_tab. by_bool (b == 13) (λ yes. subst (λ x. group_by m x ≡ group.Symbols) (sym (eqb-true b 13 yes)) refl)
    (λ no_return. by_bool (b == 10) (λ yes. subst (λ x. group_by m x ≡ group.Symbols) (sym (eqb-true b 10 yes)) refl)
    (λ no_feed. let e = rw (no_space, no_tab, no_return, no_feed) at h in absurd cc))))

symbol_mark : (k : TokenKind) (u : Bytes) → group_of k ≡ group.Symbols → Form k u → begins is_mark u ≡ true
symbol_mark kind.Symbol u g f = symbol_begins u f.0 f.1
symbol_mark k u g f = absurd cc

not_blank : (b : ℕ) → is_mark b ≡ true → is_blank b ≡ false
unfolding is_mark
not_blank b h =
    let first = or_parts (is_name_start b) (is_digit b || ((b == 34) || is_blank b)) (not-true (is_name_start b || (is_digit b || ((b == 34) || is_blank b))) h) in
    (or_parts (b == 34) (is_blank b) (or_parts (is_digit b) ((b == 34) || is_blank b) first.1).1).1

mark_blank : (u z : Bytes) → begins is_mark u ≡ true → begins is_blank (u ++ z) ≡ false
mark_blank [] z h = absurd cc
mark_blank (b ∷ u) z h = not_blank b h

-- no token begins with a blank
pub blank_no_form : (m : Mode) (w : Bytes) (k : TokenKind) (u z : Bytes) → begins is_blank w ≡ true → w ≡ u ++ z → FormAt m k u z → ⊥
blank_no_form m [] k u z h e f = absurd cc
blank_no_form m (b ∷ w) k u z h e f =
    let g = of_group m (b ∷ w) group.Symbols k u z (blank_group m b h) e f in
    let other = mark_blank u z (symbol_mark k u g f.form) in
    let same = ap (begins is_blank) e in
    cc

slash_no_blank : (b : ℕ) → is_slash b ≡ true → is_blank b ≡ false
unfolding is_slash is_blank
slash_no_blank b h = grind (arith, nat_tests, h)

pub comment_on : (c z : Bytes) → begins_comment c ≡ true → (begins_comment (c ++ z) ≡ true) × (begins is_blank (c ++ z) ≡ false) × (0 < length c)
comment_on [] z h = absurd cc
comment_on (b ∷ []) z h = by_bool (is_slash b) (λ yes. let e = rw yes at h in absurd cc) (λ other. let e = rw other at h in absurd cc)
comment_on (b ∷ d ∷ c) z h = (h, slash_no_blank b (and_parts (is_slash b) (is_slash d) h).0, omega arith)

-- a comment is the rest of its line
comment_len : (w c z : Bytes) → w ≡ c ++ z → IsComment c z → prefix_len (λ b. not (is_line_feed b)) w ≡ length c
comment_len w c z e h = ap (prefix_len (λ b. not (is_line_feed b))) e ∙ run_is (λ b. not (is_line_feed b)) c z h.one_line h.to_the_end

pub same_comment : (w c z d y : Bytes) → w ≡ c ++ z → w ≡ d ++ y → IsComment c z → IsComment d y → (c ≡ d) × (z ≡ y)
same_comment w c z d y e f h k = same_front c z d y (sym e ∙ f) (sym (comment_len w c z e h) ∙ comment_len w d y f k)

pub same_token : (m : Mode) (w u z v y : Bytes) (j k : TokenKind) → w ≡ u ++ z → w ≡ v ++ y → IsToken m j u z → IsToken m k v y → (u ≡ v) × (z ≡ y) × (j ≡ k)
same_token m w u z v y j k e f h i =
    let both : u ++ z ≡ v ++ y = sym e ∙ f in
    let long = h.longest k v y both i.form in
    let short = i.longest j u z (sym both) h.form in
    let same = same_front u z v y both (omega arith) in
    (same.0, same.1, one_kind m j k v y (subst (λ x. FormAt m j v x) same.1 (subst (λ x. FormAt m j x z) same.0 h.form)) i.form)
