-- The tokens of a token list lie in the text one after another, and each has the form of its kind.
use Rattle.std.proofs.Common.{◌≡◌, ℕ, ◌+◌, ◌≤◌, List, [], ◌∷◌, ◌++◌, length, drop, refl, sym, ap, subst, ◌∙◌, arith, append_assoc, length-append}
use Rattle.std.specs.List.{All}
use Rattle.std.proofs.lemmas.List.Elements.{All-nil, All-cons}
use Rattle.fx_scan.specs.declared.mode.Mode.{Mode}
use Rattle.fx_scan.specs.declared.token.Token.{Token}
use Rattle.fx_scan.specs.declared.token.TokenKind.{TokenKind}
use Rattle.fx_scan.specs.Forms.{Bytes, Form, IsFormed}
use Rattle.fx_scan.specs.Tokens.{token_at, Reads, nothing, blank, comment, token, IsTokenList, IsInOrder}
use Rattle.fx_scan.proofs.Runs.{taken, dropped}
use Rattle.fx_scan.proofs.KindLemmas.{form_some}

order_later : (p q : ℕ) (ts : List Token) → p ≤ q → IsInOrder q ts → IsInOrder p ts
order_later p q [] h f = tt
order_later p q (t ∷ ts) h f = let first = f.0 in (omega arith, f.1, f.2)

reads_order : {p q : ℕ} {m n : Mode} {w y : Bytes} {ts : List Token} → Reads p m w ts q n y → IsInOrder p ts
reads_order nothing = tt
reads_order {p = p} {ts = ts} (blank b z e k more) = order_later p (p + 1) ts (omega arith) (reads_order {p = p + 1} more)
reads_order {p = p} {ts = ts} (comment c z e k more) = order_later p (p + length c) ts (omega arith) (reads_order {p = p + length c} more)
reads_order {p = p} (token k u z e is more) = (omega arith, form_some k u is.form.form, reads_order {p = p + length u} more)

pub in_order : (text : Bytes) (ts : List Token) → IsTokenList text ts → IsInOrder 0 ts
in_order text ts h = reads_order h.reads

formed_at : (text front u z : Bytes) (p : ℕ) (k : TokenKind) → text ≡ front ++ (u ++ z) → length front ≡ p → Form k u → IsFormed text (token_at p k u)
formed_at text front u z p k e is f =
    let rest : drop p text ≡ u ++ z = ap (λ n. drop n text) (sym is) ∙ dropped text front (u ++ z) e in
    record {
      within = omega (arith, ap length e, length-append front (u ++ z), length-append u z);
      form = subst (Form k) (sym (taken (drop p text) u z rest)) f;
    }

reads_formed : {p q : ℕ} {m n : Mode} {w y : Bytes} {ts : List Token} → Reads p m w ts q n y → (text front : Bytes) → text ≡ front ++ w → length front ≡ p → All (IsFormed text) ts
reads_formed nothing text front e is = All-nil (IsFormed text)
reads_formed {p = p} (blank b z s k more) text front e is =
    reads_formed {p = p + 1} more text (front ++ (b ∷ [])) (e ∙ ap (λ x. front ++ x) s ∙ sym (append_assoc front (b ∷ []) z)) (omega (arith, length-append front (b ∷ [])))
reads_formed {p = p} (comment c z s k more) text front e is =
    reads_formed {p = p + length c} more text (front ++ c) (e ∙ ap (λ x. front ++ x) s ∙ sym (append_assoc front c z)) (omega (arith, length-append front c))
reads_formed {p = p} (token {ts = ts} k u z s h more) text front e is =
    let split : text ≡ front ++ (u ++ z) = e ∙ ap (λ x. front ++ x) s in
    All-cons (IsFormed text) (token_at p k u) ts (formed_at text front u z p k split is h.form.form)
    (reads_formed {p = p + length u} more text (front ++ u) (split ∙ sym (append_assoc front u z)) (omega (arith, length-append front u)))

-- each token of a token list has the form of its kind
pub all_formed : (text : Bytes) (ts : List Token) → IsTokenList text ts → All (IsFormed text) ts
all_formed text ts h = reads_formed h.reads text [] refl refl
