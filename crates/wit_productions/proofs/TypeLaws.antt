-- Each production of types is read as it says.
use Rattle.std.proofs.Common.{◌≡◌, ℕ, zero, suc, List, [], ◌∷◌, refl, ap, ◌∙◌, Option}
use Rattle.wit_tokens.specs.Passed.wit_words-declared-token-Kind.{Kind}
use Rattle.wit_tokens.specs.Passed.wit_words-declared-token-Kind-TheVariants as kind
use Rattle.wit_tokens.specs.Passed.wit_words-Token.{What, Tok, plain, same_kind}
use Rattle.wit_productions.specs.Terminal.{id}
use Rattle.wit_productions.specs.TypeTree.{TypeTree, TypeShape}
use Rattle.wit_productions.specs.Production.{Production, Takes, located, ◌>>=◌, yield, Next, none, goes, next_at, or_at, by_or}
use Rattle.wit_productions.specs.TypeGrammar.{length_in, list_len, list_after, option_after, tuple_after, result_parts, result_after, handle_of, payload, type_after, named_type, shape_of, too_deep, type_in, any_type, whole_type}
use Rattle.wit_productions.proofs.Laws.{Law, Avoids, NextLaw, bind_law, bind_open, yield_law, sign_law, one_law, branch_law, map_law, map_avoids}
use Rattle.wit_productions.proofs.Located.{located_law, located_goes, located_avoids}
use Rattle.wit_productions.proofs.Choices.{Goes, by_or_law, avoid_yield, avoid_sign, avoid_first, avoid_skip, avoid_branch, avoid_by_or, goes_one, goes_first, goes_by_or, leads_nowhere}
use Rattle.wit_productions.proofs.Terminals.{id_law, id_goes, id_avoids, beyond_id, bind_optional, bind_optional_open, finish_law, finish_avoids}
use Rattle.wit_productions.proofs.Turns.{commas_open, takes}

ruleset laws = (bind_law, yield_law, sign_law, branch_law)

ruleset avoids = (avoid_yield, avoid_sign, avoid_first, avoid_skip, avoid_branch)

-- what must not follow a type: `result`, `future` and `stream` go on with it
abbrev pub open_type : List Kind
open_type = kind.LessThan ∷ []

list_len_law : (ends : List Kind) → Law ends list_len
unfolding list_len
list_len_law ends = one_law ends length_in

handle_of_law : (ends : List Kind) → Law ends handle_of
unfolding handle_of
handle_of_law ends = search (laws, id_law)

module _ (inner : Production TypeTree) (l : Law open_type inner) where
  list_after_law : Law open_type (list_after inner)
  unfolding list_after same_kind
  list_after_law = search (laws, bind_open, bind_optional, avoids, l, list_len_law)

  option_after_law : Law open_type (option_after inner)
  unfolding option_after same_kind
  option_after_law = search (laws, bind_open, avoids, l)

  tuple_after_law : Goes open_type inner → Avoids [] (kind.GreaterThan ∷ []) inner → Law open_type (tuple_after inner)
  unfolding tuple_after same_kind
  tuple_after_law g a = search (laws, commas_open, l, g, a)

  result_parts_law : Avoids [] (kind.Underscore ∷ []) inner → Law open_type (result_parts inner)
  unfolding result_parts same_kind
  result_parts_law a = branch_law open_type kind.Underscore _ _ (search (laws, bind_open, avoids, l))
      (bind_open open_type open_type inner _ l (λ t. bind_optional_open open_type open_type kind.Comma inner _ l (λ e. search laws) (λ e. search avoids)) (λ t. search avoids)) (search (avoids, a))

  result_after_law : Avoids [] (kind.Underscore ∷ []) inner → Law open_type (result_after inner)
  unfolding result_after same_kind
  result_after_law a = branch_law open_type kind.LessThan _ _ (result_parts_law a) (search laws) (search avoids)

  payload_law : Law open_type (payload inner)
  unfolding payload same_kind
  payload_law = branch_law open_type kind.LessThan _ _ (search (laws, bind_open, avoids, l)) (search laws) (search avoids)

  carrier_law : (carrier : Option TypeTree → TypeShape) → Law open_type (payload inner >>= (λ t. yield (carrier t)))
  unfolding same_kind
  carrier_law carrier = bind_open open_type open_type (payload inner) _ payload_law (λ t. yield_law open_type (carrier t)) (λ t. avoid_yield open_type open_type (carrier t) refl)

type_next : (inner : Production TypeTree) → Law open_type inner → Goes open_type inner → Avoids [] (kind.GreaterThan ∷ []) inner → Avoids [] (kind.Underscore ∷ []) inner → (t : What) → NextLaw open_type (type_after inner t)
type_next inner l g a b (plain kind.Bool) = yield_law open_type _
type_next inner l g a b (plain kind.U8) = yield_law open_type _
type_next inner l g a b (plain kind.U16) = yield_law open_type _
type_next inner l g a b (plain kind.U32) = yield_law open_type _
type_next inner l g a b (plain kind.U64) = yield_law open_type _
type_next inner l g a b (plain kind.S8) = yield_law open_type _
type_next inner l g a b (plain kind.S16) = yield_law open_type _
type_next inner l g a b (plain kind.S32) = yield_law open_type _
type_next inner l g a b (plain kind.S64) = yield_law open_type _
type_next inner l g a b (plain kind.F32) = yield_law open_type _
type_next inner l g a b (plain kind.F64) = yield_law open_type _
type_next inner l g a b (plain kind.Char) = yield_law open_type _
type_next inner l g a b (plain kind.StringKeyword) = yield_law open_type _
type_next inner l g a b (plain kind.ListKeyword) = list_after_law inner l
type_next inner l g a b (plain kind.OptionKeyword) = option_after_law inner l
type_next inner l g a b (plain kind.Tuple) = tuple_after_law inner l g a
type_next inner l g a b (plain kind.ResultKeyword) = result_after_law inner l b
type_next inner l g a b (plain kind.Own) = bind_law open_type handle_of _ (handle_of_law []) (λ n. yield_law open_type _)
type_next inner l g a b (plain kind.Borrow) = bind_law open_type handle_of _ (handle_of_law []) (λ n. yield_law open_type _)
type_next inner l g a b (plain kind.Future) = carrier_law inner l _
type_next inner l g a b (plain kind.Stream) = carrier_law inner l _
type_next inner l g a b (plain kind.ErrorContext) = yield_law open_type _
type_next inner l g a b _ = tt

named_type_law : (ends : List Kind) → Law ends named_type
unfolding named_type
named_type_law ends = bind_law ends id _ (id_law []) (λ n. yield_law ends _)

named_type_goes : (ends : List Kind) → Goes ends named_type
unfolding named_type
named_type_goes ends = goes_first ends id _ (id_goes []) (λ n. yield_law ends _)

named_type_avoids : (ends begins : List Kind) → Avoids ends begins named_type
unfolding named_type
named_type_avoids ends begins = avoid_first ends begins id _ (id_avoids [] begins)

shape_avoids : (inner : Production TypeTree) (begins : List Kind) → leads_nowhere begins (type_after inner) → Avoids [] begins (shape_of inner)
unfolding shape_of
shape_avoids inner begins n = avoid_by_or [] begins (type_after inner) named_type n (named_type_avoids [] begins)

type_avoids : (d : ℕ) (begins : List Kind) → ((d : ℕ) → leads_nowhere begins (type_after (type_in d))) → Avoids [] begins (type_in d)
unfolding type_in
type_avoids zero begins n = record { clear = λ ts x rest h c. absurd (let bad = h.good in cc) }
type_avoids (suc d) begins n = map_avoids [] begins (located (shape_of (type_in d))) _ (located_avoids [] begins (shape_of (type_in d)) (shape_avoids (type_in d) begins (n d)))

shape_laws : (inner : Production TypeTree) → Law open_type inner → Goes open_type inner → Avoids [] (kind.GreaterThan ∷ []) inner → Avoids [] (kind.Underscore ∷ []) inner → Law open_type (shape_of inner) × Goes open_type (shape_of inner)
unfolding shape_of named_type
shape_laws inner l g a b =
    let next = type_next inner l g a b in
    let beyond = beyond_id (type_after inner) _ (λ s. refl) (λ s. refl) in
    (by_or_law open_type (type_after inner) named_type next (named_type_law open_type) beyond (named_type_goes open_type), goes_by_or open_type (type_after inner) named_type next (named_type_goes open_type))

map_goes : {A B : Type 0} (ends : List Kind) (p : Production A) (f : A → B) → Goes ends p → Goes ends (p >>= (λ x. yield (f x)))
map_goes ends p f g = record { shorter = λ ts x rest h. rw (← h.second.0) (g.shorter ts h.value h.mid h.first) }

type_laws : (d : ℕ) → Law open_type (type_in d) × Goes open_type (type_in d)
unfolding type_in
type_laws zero = (one_law open_type too_deep, goes_one open_type too_deep)
type_laws (suc d) =
    let below = type_laws d in
    let shape = shape_laws (type_in d) below.0 below.1 (type_avoids d (kind.GreaterThan ∷ []) (λ d. (refl, tt))) (type_avoids d (kind.Underscore ∷ []) (λ d. (refl, tt))) in
    let whole = located (shape_of (type_in d)) in
    (map_law open_type whole _ (located_law open_type (shape_of (type_in d)) shape.0), map_goes open_type whole _ (located_goes open_type (shape_of (type_in d)) shape.1))

pub any_type_law : Law open_type any_type
unfolding any_type
any_type_law = (type_laws 101).0

-- ---- whole texts

pub whole_type_law : Law [] whole_type
unfolding whole_type
whole_type_law = bind_open [] open_type any_type _ any_type_law (λ t. finish_law [] t) (λ t. finish_avoids [] open_type t)

-- ---- what loops want

pub type_takes : (d : ℕ) → Takes (type_in d)
type_takes d = takes open_type (type_in d) (type_laws d).0 (type_laws d).1

other_keyword : (k : Kind) (t : Tok) (ts : List Tok) (n : Next TypeShape) → t.what ≡ plain k → or_at (t ∷ ts) named_type.read n ts ≡ next_at (t ∷ ts) n ts
unfolding named_type id
other_keyword k t ts none e = rw e refl
other_keyword k t ts (goes p) e = refl

-- what a type is that begins with a keyword
pub keyword_read : (inner : Production TypeTree) (k : Kind) (t : Tok) (ts : List Tok) → t.what ≡ plain k → (shape_of inner).read (t ∷ ts) ≡ next_at (t ∷ ts) (type_after inner (plain k)) ts
unfolding shape_of by_or
keyword_read inner k t ts e =
    other_keyword k t ts (type_after inner t.what) e ∙ ap (λ (w : What). next_at (t ∷ ts) (type_after inner w) ts) e
