-- The items of a text's tokens: one more at a time, and one list of them alone.
use Rattle.std.proofs.Common.{◌≡◌, ℕ, ◌+◌, ◌<◌, ℤ, pos, false, List, [], ◌∷◌, ◌++◌, length, take, get_or, Some, refl, sym, ap, ap₂, ◌∙◌, arith}
use Rattle.std.specs.List.{AllZip}
use Rattle.std.proofs.lemmas.List.{take_more, append_cancel_right}
use Rattle.fx_time.specs.Time.{IsTime}
use Rattle.fx_time.proofs.FrontLemmas.{some_back}
use Rattle.fx_time.proofs.ValueLaws.{time_value-is}
use Rattle.fx_scan.specs.declared.token.Token.{Token}
use Rattle.fx_scan.specs.declared.token.TokenKind.{TokenKind}
use Rattle.fx_scan.specs.declared.token.TokenKind.TheVariants as kind
use Rattle.fx_scan.specs.Forms.{Bytes, IsSpan, all_months, all_nanos, slice_of}
use Rattle.fx_parse.specs.declared.escapes.Quotes.{Quotes}
use Rattle.fx_parse.specs.declared.item.Item.{Item}
use Rattle.fx_parse.specs.declared.item.Lexeme.{Lexeme}
use Rattle.fx_parse.specs.declared.item.Lexeme.TheVariants as lexeme
use Rattle.fx_parse.specs.Escapes.{taken}
use Rattle.fx_parse.specs.Lexemes.{IsQuoted, Tells, ReadsAs, AllRead}
use Rattle.fx_parse.proofs.tokens.EscapeLemmas.{means_taken}
use Rattle.fx_parse.proofs.tokens.SpanLemmas.{spelled_pairs}

-- ---- one more

zip_push : {A B : Type 0} (R : A → B → Type 0) (xs : List A) (ys : List B) (x : A) (y : B) → AllZip R xs ys → R x y → AllZip R (xs ++ x ∷ []) (ys ++ y ∷ [])
zip_push R [] [] x y h r = (r, tt)
zip_push R [] (b ∷ ys) x y h r = absurd h
zip_push R (a ∷ xs) [] x y h r = absurd h
zip_push R (a ∷ xs) (b ∷ ys) x y h r = (h.0, zip_push R xs ys x y h.1 r)

pub read_more : (text : Bytes) (ts : List Token) (i : ℕ) (d : Token) (items after : List Item) (x : Item) → i < length ts → AllRead text (take i ts) items
    → ReadsAs text (get_or ts i d) x → after ≡ items ++ x ∷ [] → AllRead text (take (i + 1) ts) after
read_more text ts i d items after x within so one e = rw (take_more ts i d within, e) (zip_push (ReadsAs text) (take i ts) items (get_or ts i d) x so one)

-- ---- what a token says is one thing

quoted_one : (q : Quotes) (f : ℕ) (end u v w : Bytes) → IsQuoted q f end u v → IsQuoted q f end u w → v ≡ w
quoted_one q f end u v w a b =
    let both : f ∷ (a.inner ++ end) ≡ f ∷ (b.inner ++ end) = sym a.text ∙ b.text in
    let inner : a.inner ≡ b.inner = append_cancel_right a.inner b.inner end cc in
    means_taken q a.inner v a.means ∙ ap (taken q false) inner ∙ sym (means_taken q b.inner w b.means)

span_one : (u : Bytes) (m n k l : ℕ) → IsSpan u m n → IsSpan u k l → (m ≡ k) × (n ≡ l)
span_one u m n k l a b =
    let same : a.pairs ≡ b.pairs = spelled_pairs a.pairs b.pairs a.formed b.formed (sym a.text ∙ b.text) in
    (a.months_are ∙ ap all_months same ∙ sym b.months_are, a.nanos_are ∙ ap all_nanos same ∙ sym b.nanos_are)

time_one : (u : Bytes) (s t : ℤ) → IsTime u s → IsTime u t → s ≡ t
time_one u s t a b = some_back s t (sym ((time_value-is u s).0 a) ∙ (time_value-is u t).0 b)

tells_one : (k : TokenKind) (u : Bytes) (l m : Lexeme) → Tells k u l → Tells k u m → l ≡ m
tells_one kind.Name u l m a b = a ∙ sym b
tells_one kind.Word u l m a b = a.2 ∙ ap (λ x. lexeme.Word x) (let e : Some a.0 ≡ Some b.0 = sym a.1 ∙ b.1 in cc) ∙ sym b.2
tells_one kind.Int u l m a b = a ∙ sym b
tells_one kind.Span u l m a b = let same = span_one u a.0 a.1 b.0 b.1 a.2 b.2 in a.3 ∙ ap₂ (λ x y. lexeme.Span (record { months = pos x; nanos = pos y })) same.0 same.1 ∙ sym b.3
tells_one kind.Time u l m a b = a.2 ∙ ap (λ x. lexeme.Time x) (time_one u a.0 b.0 a.1 b.1) ∙ sym b.2
tells_one kind.Plain u l m a b = a.2 ∙ ap (λ x. lexeme.Plain x) (quoted_one _ _ _ u a.0 b.0 a.1 b.1) ∙ sym b.2
tells_one kind.Head u l m a b = a.2 ∙ ap (λ x. lexeme.Head x) (quoted_one _ _ _ u a.0 b.0 a.1 b.1) ∙ sym b.2
tells_one kind.Mid u l m a b = a.2 ∙ ap (λ x. lexeme.Mid x) (quoted_one _ _ _ u a.0 b.0 a.1 b.1) ∙ sym b.2
tells_one kind.Tail u l m a b = a.2 ∙ ap (λ x. lexeme.Tail x) (quoted_one _ _ _ u a.0 b.0 a.1 b.1) ∙ sym b.2
tells_one kind.Pattern u l m a b = a.2 ∙ ap (λ x. lexeme.Pattern x) (quoted_one _ _ _ u a.0 b.0 a.1 b.1) ∙ sym b.2
tells_one kind.Symbol u l m a b = a.2 ∙ ap (λ x. lexeme.Symbol x) (let e : Some a.0 ≡ Some b.0 = sym a.1 ∙ b.1 in cc) ∙ sym b.2

item_one : (text : Bytes) (t : Token) (x y : Item) → ReadsAs text t x → ReadsAs text t y → x ≡ y
item_one text t x y a b = ap₂ (λ p l. record { place = p; lexeme = l }) (a.place ∙ sym b.place) (tells_one t.kind (slice_of text t) x.lexeme y.lexeme a.tells b.tells)

pub read_one : (text : Bytes) (ts : List Token) (xs ys : List Item) → AllRead text ts xs → AllRead text ts ys → xs ≡ ys
read_one text [] [] [] a b = refl
read_one text [] (x ∷ xs) ys a b = absurd a
read_one text [] [] (y ∷ ys) a b = absurd b
read_one text (t ∷ ts) [] ys a b = absurd a
read_one text (t ∷ ts) (x ∷ xs) [] a b = absurd b
read_one text (t ∷ ts) (x ∷ xs) (y ∷ ys) a b = ap₂ (λ z zs. z ∷ zs) (item_one text t x y a.0 b.0) (read_one text ts xs ys a.1 b.1)
