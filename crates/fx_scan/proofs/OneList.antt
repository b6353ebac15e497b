-- A text has one token list at most, and none where it is stuck; and it is stuck at one place at most.
use Rattle.std.proofs.Common.{◌≡◌, ℕ, ◌+◌, true, false, List, [], ◌∷◌, ◌++◌, length, refl, sym, ap, subst, ◌∙◌, arith}
use Rattle.fx_scan.specs.declared.mode.Mode.{Mode}
use Rattle.fx_scan.specs.declared.token.Token.{Token}
use Rattle.fx_scan.specs.Forms.{Bytes, begins}
use Rattle.fx_scan.specs.Tokens.{is_blank, begins_comment, IsComment, after, token_at, Reads, nothing, blank, comment, token, IsTokenList, IsStill, IsStuck}
use Rattle.fx_scan.proofs.Runs.{nothing_left}
use Rattle.fx_scan.proofs.KindLemmas.{form_some}
use Rattle.fx_scan.proofs.Beginnings.{blank_no_form, comment_on, same_comment, same_token}

pub still_at_end : (m : Mode) → IsStill m []
still_at_end m = record { no_blank = refl; no_comment = refl; no_token = λ k u z e f. nothing_left u z e (form_some k u f.form) }

-- ---- one list

-- where two readings end
record SameEnd (ts us : List Token) (q r : ℕ) (n o : Mode) (y z : Bytes) : Type 0 where
  pub tokens : us ≡ ts
  pub place : r ≡ q
  pub left : y ≡ z

blank_or : (m : Mode) (w : Bytes) (b : ℕ) (z : Bytes) → w ≡ b ∷ z → is_blank b ≡ true → begins is_blank w ≡ true
blank_or m w b z e h = ap (begins is_blank) e ∙ h

comment_or : (w c z : Bytes) → w ≡ c ++ z → IsComment c z → (begins_comment w ≡ true) × (begins is_blank w ≡ false)
comment_or w c z e h = let on = comment_on c z h.slashes in (ap begins_comment e ∙ on.0, ap (begins is_blank) e ∙ on.1)

one_end : {p q r : ℕ} {m n o : Mode} {w y z : Bytes} {ts us : List Token} → Reads p m w ts q n y → Reads p m w us r o z → IsStill n y → IsStill o z → SameEnd ts us q r n o y z
one_end nothing nothing h i = record { tokens = refl; place = refl; left = refl }
one_end {m = m} {w = w} nothing (blank b z e k more) h i = let first = blank_or m w b z e k in let stop = h.no_blank in absurd cc
one_end {w = w} nothing (comment c z e k more) h i = let first = (comment_or w c z e k).0 in let stop = h.no_comment in absurd cc
one_end nothing (token k u z e is more) h i = absurd (h.no_token k u z e is.form)
one_end {m = m} {w = w} (blank b z e k more) nothing h i = let first = blank_or m w b z e k in let stop = i.no_blank in absurd cc
one_end {p = p} {r = r} {m = m} {o = o} {z = left} {us = us} (blank b z e k more) (blank b' z' e' k' more') h i =
    let rest : z' ≡ z = cc in
    one_end {p = p + 1} more (subst (λ x. Reads (p + 1) m x us r o left) rest more') h i
one_end {m = m} {w = w} (blank b z e k more) (comment c z' e' k' more') h i = let first = blank_or m w b z e k in let other = (comment_or w c z' e' k').1 in absurd cc
one_end {m = m} {w = w} (blank b z e k more) (token j u z' e' is more') h i = absurd (blank_no_form m w j u z' (blank_or m w b z e k) e' is.form)
one_end {w = w} (comment c z e k more) nothing h i = let first = (comment_or w c z e k).0 in let stop = i.no_comment in absurd cc
one_end {m = m} {w = w} (comment c z e k more) (blank b z' e' k' more') h i = let first = blank_or m w b z' e' k' in let other = (comment_or w c z e k).1 in absurd cc
one_end {p = p} {r = r} {m = m} {o = o} {w = w} {z = left} {us = us} (comment c z e k more) (comment d z' e' k' more') h i =
    let same = same_comment w d z' c z e' e k' k in
    one_end {p = p + length c} more (subst (λ x. Reads (p + length c) m x us r o left) same.1 (subst (λ x. Reads (p + length x) m z' us r o left) same.0 more')) h i
one_end {w = w} (comment c z e k more) (token j u z' e' is more') h i =
    let first = ap begins_comment (sym e') ∙ (comment_or w c z e k).0 in let other = is.no_comment in absurd cc
one_end (token k u z e is more) nothing h i = absurd (i.no_token k u z e is.form)
one_end {m = m} {w = w} (token k u z e is more) (blank b z' e' k' more') h i = absurd (blank_no_form m w k u z (blank_or m w b z' e' k') e is.form)
one_end {w = w} (token k u z e is more) (comment c z' e' k' more') h i =
    let first = ap begins_comment (sym e) ∙ (comment_or w c z' e' k').0 in let other = is.no_comment in absurd cc
one_end {p = p} {r = r} {m = m} {o = o} {w = w} {z = left} (token {ts = ts} k u z e is more) (token {ts = us} j v z' e' is' more') h i =
    let same = same_token m w v z' u z j k e' e is' is in
    let place = subst (λ x. Reads (p + length x) (after m j x) z' us r o left) same.0 more' in
    let rest = subst (λ x. Reads (p + length u) (after m j u) x us r o left) same.1 place in
    let ends = one_end {p = p + length u} more (subst (λ x. Reads (p + length u) (after m x u) z us r o left) same.2 rest) h i in
    record { tokens = ap (λ x. token_at p j x ∷ us) same.0 ∙ ap (λ x. token_at p x u ∷ us) same.2 ∙ ap (λ x. token_at p k u ∷ x) ends.tokens; place = ends.place; left = ends.left }

pub one_list : (text : Bytes) (ts us : List Token) → IsTokenList text ts → IsTokenList text us → us ≡ ts
one_list text ts us h i = (one_end h.reads i.reads (still_at_end h.mode) (still_at_end i.mode)).tokens

pub no_list : (text : Bytes) (place : ℕ) → IsStuck text place → (ts : List Token) → IsTokenList text ts → ⊥
no_list text place h ts i =
    let same = one_end h.reads i.reads h.still (still_at_end i.mode) in
    let some = h.some in
    omega (arith, ap length same.left)

pub one_place : (text : Bytes) (p q : ℕ) → IsStuck text p → IsStuck text q → q ≡ p
one_place text p q h i = (one_end h.reads i.reads h.still i.still).place
