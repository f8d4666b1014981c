-- Lists, as a loop reads them.
use Rattle.std.proofs.Common.{◌≡◌, ◌<◌, ◌≤◌, length, arith, true, false, List, [], ◌∷◌, ◌++◌, Result, Ok, Err, refl, sym, ap, ◌∙◌, append_assoc, append-nil}
use Rattle.std.specs.Result.{result_and}
use Rattle.wit_productions.specs.declared.fault.ReadError.{ReadError}
use Rattle.wit_productions.specs.declared.fault.ReadError.TheVariants as errors
use Rattle.wit_tokens.specs.Passed.wit_words-declared-token-Kind.{Kind}
use Rattle.wit_tokens.specs.Passed.wit_words-declared-token-Kind-TheVariants as kind
use Rattle.wit_tokens.specs.Passed.wit_words-Token.{Tok}
use Rattle.wit_productions.specs.Production.{Outcome, Production, Takes, Reads, Fails, and_then, sees, after, sign, branch, commas, until, at_end_at, all_step, all, many, ◌>>=◌, yield, onto}
use Rattle.wit_productions.proofs.Laws.{after_unseen}
use Rattle.wit_productions.proofs.Turns.{comma_turn, until_turn, all_turn, many_turn}

onto_more : {A : Type 0} (found : List A) (x : A) (o : Outcome (List A)) → onto found (and_then o (λ xs rest. Ok (x ∷ xs, rest))) ≡ onto (found ++ x ∷ []) o
onto_more {A = A} found x (Ok p) = ap (λ (l : List A). Ok (l, p.1)) (sym (append_assoc found (x ∷ []) p.0))
onto_more found x (Err e) = refl

at_end_some : {X : Type 0} (ts : List Tok) (x : X) (read : List Tok → Outcome X) → 0 < length ts → at_end_at x read ts ≡ read ts
at_end_some [] x read some = absurd (omega arith)
at_end_some (t ∷ ts) x read some = refl

module _ {A : Type 0} (item : Production A) (shut : Kind) (takes : Takes item)
    (found : List A) (ts : List Tok) (total : Outcome (List A)) (so_far : total ≡ onto found ((commas item shut).read ts)) where
  pub closes : sees shut ts ≡ true → total ≡ Ok (found, after shut ts)
  unfolding branch
  closes seen = so_far ∙ ap (onto found) (comma_turn item shut takes ts) ∙ rw seen (ap (λ (l : List A). Ok (l, after shut ts)) (append-nil found))

  pub fails : (e : ReadError) → sees shut ts ≡ false → Fails e (item.read (after shut ts)) → Fails e total
  unfolding branch
  fails errors.Memory unseen h = tt
  fails (errors.Malformed f) unseen h = so_far ∙ ap (onto found) (comma_turn item shut takes ts) ∙ rw (unseen, (rw (after_unseen shut ts unseen) at h)) refl

  module _ (unseen : sees shut ts ≡ false) (x : A) (mid : List Tok) (read : item.read (after shut ts) ≡ Ok (x, mid)) where
    pub goes_on : sees kind.Comma mid ≡ true → total ≡ onto (found ++ x ∷ []) ((commas item shut).read (after kind.Comma mid))
    unfolding branch
    goes_on seen = so_far ∙ ap (onto found) (comma_turn item shut takes ts) ∙ rw (unseen, (rw (after_unseen shut ts unseen) at read)) (rw seen (onto_more found x ((commas item shut).read (after kind.Comma mid))))

    pub last : {V : Type 0} (view : V → List A) (v : V) (r : Result (Unit {0}) ReadError) (rest : List Tok) → view v ≡ found ++ x ∷ [] → sees kind.Comma mid ≡ false
        → Reads (λ u. u) r rest ((sign shut).read (after kind.Comma mid)) → Reads view (result_and r (Ok v)) rest total
    unfolding branch
    last view v (Ok u) rest more none h = so_far ∙ ap (onto found) (comma_turn item shut takes ts) ∙ rw (unseen, (rw (after_unseen shut ts unseen) at read)) (rw (none, more) (rw (rw (after_unseen kind.Comma mid none) at h) refl))
    last view v (Err errors.Memory) rest more none h = tt
    last view v (Err (errors.Malformed f)) rest more none h = so_far ∙ ap (onto found) (comma_turn item shut takes ts) ∙ rw (unseen, (rw (after_unseen shut ts unseen) at read)) (rw none (rw (rw (after_unseen kind.Comma mid none) at h) refl))

-- The same of a list up to a closing sign.
module _ {A : Type 0} (item : Production A) (shut : Kind) (takes : Takes item)
    (found : List A) (ts : List Tok) (total : Outcome (List A)) (so_far : total ≡ onto found ((until item shut).read ts)) where
  pub until_closes : sees shut ts ≡ true → total ≡ Ok (found, after shut ts)
  unfolding branch
  until_closes seen = so_far ∙ ap (onto found) (until_turn item shut takes ts) ∙ rw seen (ap (λ (l : List A). Ok (l, after shut ts)) (append-nil found))

  pub until_fails : (e : ReadError) → sees shut ts ≡ false → Fails e (item.read (after shut ts)) → Fails e total
  unfolding branch
  until_fails errors.Memory unseen h = tt
  until_fails (errors.Malformed f) unseen h = so_far ∙ ap (onto found) (until_turn item shut takes ts) ∙ rw (unseen, (rw (after_unseen shut ts unseen) at h)) refl

  pub until_goes_on : sees shut ts ≡ false → (x : A) (mid : List Tok) → item.read (after shut ts) ≡ Ok (x, mid) → total ≡ onto (found ++ x ∷ []) ((until item shut).read mid)
  unfolding branch
  until_goes_on unseen x mid read = so_far ∙ ap (onto found) (until_turn item shut takes ts) ∙ rw (unseen, (rw (after_unseen shut ts unseen) at read)) (onto_more found x ((until item shut).read mid))

-- The same of a list up to the end.
abbrev one_more : {A : Type 0} → Production A → List Tok → Outcome (List A)
one_more item = (item >>= (λ x. all item >>= (λ xs. yield (x ∷ xs)))).read

module _ {A : Type 0} (item : Production A) (takes : Takes item) (found : List A) (ts : List Tok) (total : Outcome (List A)) (so_far : total ≡ onto found ((all item).read ts)) where
  pub all_ends : length ts ≤ 0 → total ≡ Ok (found, ts)
  all_ends none = so_far ∙ ap (onto found) (all_turn item takes ts) ∙ at_none ts none
    where
      at_none : (us : List Tok) → length us ≤ 0 → onto found ((all_step item (all item)).read us) ≡ Ok (found, us)
      at_none [] e = ap (λ (l : List A). Ok (l, [])) (append-nil found)
      at_none (t ∷ us) e = absurd (omega arith)

  pub all_fails : (e : ReadError) → 0 < length ts → Fails e (item.read ts) → Fails e total
  all_fails errors.Memory some h = tt
  all_fails (errors.Malformed f) some h = so_far ∙ ap (onto found) (all_turn item takes ts ∙ at_end_some ts [] (one_more item) some) ∙ rw h refl

  pub all_goes_on : 0 < length ts → (x : A) (mid : List Tok) → item.read ts ≡ Ok (x, mid) → total ≡ onto (found ++ x ∷ []) ((all item).read mid)
  all_goes_on some x mid read = so_far ∙ ap (onto found) (all_turn item takes ts ∙ at_end_some ts [] (one_more item) some) ∙ rw read (onto_more found x ((all item).read mid))

-- The same of a list of what begins with a sign.
module _ {A : Type 0} (k : Kind) (item : Production A) (takes : Takes item) (found : List A) (ts : List Tok) (total : Outcome (List A)) (so_far : total ≡ onto found ((many k item).read ts)) where
  pub many_ends : sees k ts ≡ false → total ≡ Ok (found, ts)
  unfolding branch
  many_ends unseen = so_far ∙ ap (onto found) (many_turn k item takes ts) ∙ rw unseen (ap (λ (l : List A). Ok (l, ts)) (append-nil found))

  pub many_fails : (e : ReadError) → sees k ts ≡ true → Fails e (item.read (after k ts)) → Fails e total
  unfolding branch
  many_fails errors.Memory seen h = tt
  many_fails (errors.Malformed f) seen h = so_far ∙ ap (onto found) (many_turn k item takes ts) ∙ rw (seen, h) refl

  pub many_goes_on : sees k ts ≡ true → (x : A) (mid : List Tok) → item.read (after k ts) ≡ Ok (x, mid) → total ≡ onto (found ++ x ∷ []) ((many k item).read mid)
  unfolding branch
  many_goes_on seen x mid read = so_far ∙ ap (onto found) (many_turn k item takes ts) ∙ rw (seen, read) (onto_more found x ((many k item).read mid))
