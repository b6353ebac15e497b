-- What a line takes, as one equation and what is asked of the arguments that may be left out.
use Rattle.std.proofs.Common.{◌≡◌, ◌↔◌, inl, inr, refl, sym, ap, subst, ◌∙◌, None, Some}
use Rattle.fx_base.specs.Text.{same_text}
use Rattle.fx_types.specs.Ground.{Ground, GroundField, GroundRow, g_fun, g_absent, g_is}
use Rattle.fx_types.specs.Term.{Label}
use Rattle.fx_types.proofs.Choices.{chosen, passed, by_cases}
use Rattle.fx_types.proofs.RowSums.{same_is, same_itself}
use Rattle.fx_schemes.specs.Line.{Line, put, take_out}
use Rattle.fx_infer.specs.Arguments.{Takes, TakesAll, TakesByLabel, IsCall, IsPipe}
use Rattle.fx_infer.specs.Calls.{NotBoth, IsPipeApart, IsApart, Suits, unless_free}

-- at one label

takes_apart : (n o g : GroundField) → NotBoth n o → Takes n o g → Suits o g × (n ≡ unless_free o g)
takes_apart (g_is t) g_absent g apart h = (tt, sym h)
takes_apart (g_is t) (g_is u) g apart h = absurd apart
takes_apart g_absent g_absent g apart (inl e) = (tt, sym e)
takes_apart g_absent g_absent g apart (inr e) = (tt, sym e)
takes_apart g_absent (g_is u) g apart h = (h, refl)

takes_back : (n o g : GroundField) → NotBoth n o → Suits o g → n ≡ unless_free o g → Takes n o g
takes_back (g_is t) g_absent g apart h e = sym e
takes_back (g_is t) (g_is u) g apart h e = absurd apart
takes_back g_absent g_absent g apart h e = inl (sym e)
takes_back g_absent (g_is u) g apart h e = h

not_both_left : (n : GroundField) → NotBoth n g_absent
not_both_left g_absent = tt
not_both_left (g_is t) = tt

-- what is given where nothing may be left out
abbrev pub due : GroundRow → GroundRow → GroundRow
due optional given l = unless_free (optional l) (given l)

abbrev pub Suit : GroundRow → GroundRow → Type 0
Suit optional given = (l : Label) → Suits (optional l) (given l)

all_apart : (needs optional given : GroundRow) → ((l : Label) → NotBoth (needs l) (optional l)) → TakesAll needs optional given → Suit optional given × (needs ≡ due optional given)
all_apart needs optional given apart h = (λ l. (takes_apart (needs l) (optional l) (given l) (apart l) (h l)).0, λ i l. (takes_apart (needs l) (optional l) (given l) (apart l) (h l)).1 i)

all_back : (needs optional given : GroundRow) → ((l : Label) → NotBoth (needs l) (optional l)) → Suit optional given → ((l : Label) → needs l ≡ due optional given l) → TakesAll needs optional given
all_back needs optional given apart h e = λ l. takes_back (needs l) (optional l) (given l) (apart l) (h l) (e l)

module _ (L : Line) (apart : IsApart L) (given : GroundRow) where
  -- with a value from the pipe
  pub piped_asks : (u t : Ground) → IsPipe u given L t ↔ (Suit L.optional given × (L.type ≡ g_fun (due L.optional given) (g_is u) t))
  piped_asks u t = (
    λ h. (let k : Suit L.optional given × (h.0 ≡ due L.optional given) = all_apart h.0 L.optional given (apart h.0 (g_is u) t h.1).0 h.2 in (k.0, h.1 ∙ ap (λ r. g_fun r (g_is u) t) k.1)),
    λ h. (due L.optional given, h.1, all_back (due L.optional given) L.optional given (apart (due L.optional given) (g_is u) t h.1).0 h.0 (λ l. refl)),
  )

  -- what takes nothing by a label of the pipe
  plain_there : (needs : GroundRow) (input : GroundField) (t : Ground) → L.type ≡ g_fun needs input t → TakesByLabel None input needs L.optional given
      → Suit L.optional given × (L.type ≡ g_fun (due L.optional given) g_absent t)
  plain_there needs g_absent t e h = (let k : Suit L.optional given × (needs ≡ due L.optional given) = all_apart needs L.optional given (apart needs g_absent t e).0 h in (k.0, e ∙ ap (λ r. g_fun r g_absent t) k.1))
  plain_there needs (g_is u) t e h = absurd h

  pub plain_asks : (t : Ground) → L.pipe_label ≡ None → IsCall given L t ↔ (Suit L.optional given × (L.type ≡ g_fun (due L.optional given) g_absent t))
  plain_asks t none = (
    λ h. plain_there h.0 h.1 t h.2 (subst (λ x. TakesByLabel x h.1 h.0 L.optional given) none h.3),
    λ h. (
      due L.optional given,
      g_absent,
      h.1,
      subst (λ x. TakesByLabel x g_absent (due L.optional given) L.optional given) (sym none)
          (all_back (due L.optional given) L.optional given (apart (due L.optional given) g_absent t h.1).0 h.0 (λ l. refl)),
    ),
  )

  -- what comes by the pipe is given under its label
  module _ (x : Label) (is : L.pipe_label ≡ Some x) where
    put_apart : (needs : GroundRow) (input : GroundField) (u : Ground) → ((l : Label) → NotBoth (needs l) (L.optional l)) → IsPipeApart (Some x) input needs L.optional
        → (l : Label) → NotBoth (put x u needs l) (L.optional l)
    put_apart needs input u h p l =
        by_cases (same_text l x)
        (λ c. subst (λ o. NotBoth (put x u needs l) o) (sym (ap L.optional (same_is l x c) ∙ p.2)) (not_both_left (put x u needs l)))
        (λ c. subst (λ n. NotBoth n (L.optional l)) (sym (passed (same_text l x) (g_is u) (needs l) c)) (h l))

    taken_out : (needs r : GroundRow) (u : Ground) → needs x ≡ g_absent → ((l : Label) → put x u needs l ≡ r l) → (l : Label) → needs l ≡ take_out x r l
    taken_out needs r u off h l =
        by_cases (same_text l x)
        (λ c. ap needs (same_is l x c) ∙ off ∙ sym (chosen (same_text l x) g_absent (r l) c))
        (λ c. sym (passed (same_text l x) (g_is u) (needs l) c) ∙ h l ∙ sym (passed (same_text l x) g_absent (r l) c))

    put_back : (r : GroundRow) (u : Ground) → r x ≡ g_is u → (l : Label) → put x u (take_out x r) l ≡ r l
    put_back r u there l =
        by_cases (same_text l x)
        (λ c. chosen (same_text l x) (g_is u) (take_out x r l) c ∙ sym there ∙ sym (ap r (same_is l x c)))
        (λ c. passed (same_text l x) (g_is u) (take_out x r l) c ∙ passed (same_text l x) g_absent (r l) c)

    abbrev pub AsksInput : Ground → Type 0
    AsksInput t = (u : Ground) × Suit L.optional given × (due L.optional given x ≡ g_is u) × (L.type ≡ g_fun (take_out x (due L.optional given)) (g_is u) t)

    with_input : (needs : GroundRow) (input : GroundField) (u t : Ground) → input ≡ g_is u → L.type ≡ g_fun needs input t → TakesByLabel (Some x) (g_is u) needs L.optional given → AsksInput t
    with_input needs input u t same e h =
        let parts : ((l : Label) → NotBoth (needs l) (L.optional l)) × IsPipeApart (Some x) input needs L.optional = subst (λ y. ((l : Label) → NotBoth (needs l) (L.optional l)) × IsPipeApart y input needs L.optional) is (apart needs input t e) in
        let k : Suit L.optional given × (put x u needs ≡ due L.optional given) = all_apart (put x u needs) L.optional given (put_apart needs input u parts.0 parts.1) h in (
          u,
          k.0,
          sym (ap (λ r. r x) k.1) ∙ chosen (same_text x x) (g_is u) (needs x) (same_itself x),
          e ∙ (λ i. g_fun (λ l. taken_out needs (due L.optional given) u parts.1.1 (λ m. ap (λ r. r m) k.1) l i) (same i) t),
        )

    label_there : (needs : GroundRow) (input : GroundField) (t : Ground) → L.type ≡ g_fun needs input t → TakesByLabel (Some x) input needs L.optional given → AsksInput t
    label_there needs input t e h =
        let parts : ((l : Label) → NotBoth (needs l) (L.optional l)) × IsPipeApart (Some x) input needs L.optional = subst (λ y. ((l : Label) → NotBoth (needs l) (L.optional l)) × IsPipeApart y input needs L.optional) is (apart needs input t e) in
        with_input needs input parts.1.0.0 t parts.1.0.1 e (subst (λ f. TakesByLabel (Some x) f needs L.optional given) parts.1.0.1 h)

    pub label_asks : (t : Ground) → IsCall given L t ↔ AsksInput t
    label_asks t = (
      λ h. label_there h.0 h.1 t h.2 (subst (λ y. TakesByLabel y h.1 h.0 L.optional given) is h.3),
      λ h.
          (let needs : GroundRow = take_out x (due L.optional given) in
          let parts : ((l : Label) → NotBoth (needs l) (L.optional l)) × IsPipeApart (Some x) (g_is h.0) needs L.optional =
          subst (λ y. ((l : Label) → NotBoth (needs l) (L.optional l)) × IsPipeApart y (g_is h.0) needs L.optional) is (apart needs (g_is h.0) t h.3) in (
            needs,
            g_is h.0,
            h.3,
            subst (λ y. TakesByLabel y (g_is h.0) needs L.optional given) (sym is)
                (all_back (put x h.0 needs) L.optional given (put_apart needs (g_is h.0) h.0 parts.0 parts.1) h.1 (put_back (due L.optional given) h.0 h.2)),
          )),
    )
