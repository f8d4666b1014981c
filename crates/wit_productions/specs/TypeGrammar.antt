-- The grammar of types (WIT, Types).
use Rattle.std.specs.Prelude.{ℕ, zero, suc, ◌+◌, ◌-◌, ◌*◌, ◌^◌, ◌==◌, ◌||◌, nat_le, Bool, true, if◌then◌else◌, [], ◌∷◌, Option, Some, None, Result, Ok, Err}
use Rattle.wit_tokens.specs.Passed.wit_words-declared-fault-Rule.{Rule}
use Rattle.wit_tokens.specs.Passed.wit_words-declared-fault-Rule-TheVariants as rules
use Rattle.wit_tokens.specs.Passed.wit_words-declared-token-Kind-TheVariants as kind
use Rattle.wit_tokens.specs.Lex.{Text}
use Rattle.wit_tokens.specs.Passed.wit_words-Token.{What, plain, number, ident, explicit}
use Rattle.wit_productions.specs.TypeTree as tree
use Rattle.wit_productions.specs.TypeTree.{TypeTree, TypeShape, row, opt, no_type, a_type}
use Rattle.wit_productions.specs.Production.{Production, ◌>>=◌, ◌>>◌, yield, refuse, sign, one, located, branch, optional, Next, none, goes, leads_on, by_or, commas, finish}
use Rattle.wit_tokens.specs.Passed.wit_words-Slice.{Slice}
use Rattle.wit_productions.specs.Terminal.{id}

-- ---- the length of a list

-- the number that decimal digits write behind those of another
abbrev pub decimal_after : ℕ → Text → ℕ
decimal_after value [] = value
decimal_after value (digit ∷ digits) = decimal_after (value * 10 + (digit - 48)) digits

abbrev pub decimal : Text → ℕ
decimal = decimal_after 0

-- the number with one more digit, if 32 bits are enough
abbrev pub longer : ℕ → ℕ → Option ℕ
longer value digit = if nat_le (2 ^ 32) (value * 10 + (digit - 48)) then None else Some (value * 10 + (digit - 48))

-- from 1 to 4,294,967,295
abbrev pub list_length : ℕ → Result ℕ Rule
list_length n = if n == 0 || nat_le (2 ^ 32) n then Err rules.BadNumber else Ok n

abbrev pub length_in : What → Result ℕ Rule
length_in (number digits) = list_length (decimal digits)
length_in _ = Err rules.Unexpected

unfoldable pub list_len : Production ℕ
list_len = one length_in

-- the length of a list if it has one, and what closes the list
unfoldable pub list_end : Production (Option ℕ)
list_end = do
  n ← optional kind.Comma list_len
  sign kind.GreaterThan
  yield n

-- ---- what stands behind the keyword of a type, whose parts are of the production inner

-- the last part, and what closes the type
unfoldable pub last_part : Production TypeTree → Production TypeTree
last_part inner = do
  t ← inner
  sign kind.GreaterThan
  yield t

-- another part if there is one, and what closes the type
unfoldable pub second_part : Production TypeTree → Production (Option TypeTree)
second_part inner = branch kind.Comma
    (do
      t ← last_part inner
      yield (Some t))
    (do
      sign kind.GreaterThan
      yield None)

-- list<type>, or list<type, number>
unfoldable pub list_after : Production TypeTree → Production TypeShape
list_after inner = do
  sign kind.LessThan
  t ← inner
  n ← optional kind.Comma list_len
  sign kind.GreaterThan
  yield (of_length t n)
  where
    of_length : TypeTree → Option ℕ → TypeShape
    of_length t None = tree.list t
    of_length t (Some n) = tree.fixed_length_list t n

-- option<type>
unfoldable pub option_after : Production TypeTree → Production TypeShape
option_after inner = do
  sign kind.LessThan
  t ← inner
  sign kind.GreaterThan
  yield (tree.option t)

-- tuple<type,..>
unfoldable pub tuple_after : Production TypeTree → Production TypeShape
tuple_after inner = do
  sign kind.LessThan
  ts ← commas inner kind.GreaterThan
  yield (tree.tuple (row ts))

-- result<_, type>, result<type> or result<type, type>
unfoldable pub result_parts : Production TypeTree → Production TypeShape
result_parts inner = branch kind.Underscore
    (do
      sign kind.Comma
      e ← inner
      sign kind.GreaterThan
      yield (tree.result no_type (a_type e)))
    (do
      t ← inner
      e ← optional kind.Comma inner
      sign kind.GreaterThan
      yield (tree.result (a_type t) (opt e)))

-- the same, or result
unfoldable pub result_after : Production TypeTree → Production TypeShape
result_after inner = branch kind.LessThan (result_parts inner) (yield (tree.result no_type no_type))

-- <id>, behind own or borrow
unfoldable pub handle_of : Production Slice
handle_of = do
  sign kind.LessThan
  n ← id
  sign kind.GreaterThan
  yield n

-- <type>, or nothing, behind future or stream
unfoldable pub payload : Production TypeTree → Production (Option TypeTree)
payload inner = branch kind.LessThan
    (do
      t ← inner
      sign kind.GreaterThan
      yield (Some t))
    (yield None)

abbrev pub future_after : Production TypeTree → Production TypeShape
future_after inner = do
  t ← payload inner
  yield (tree.future (opt t))

abbrev pub stream_after : Production TypeTree → Production TypeShape
stream_after inner = do
  t ← payload inner
  yield (tree.stream (opt t))

-- what a type goes on with behind a keyword
abbrev pub type_after : Production TypeTree → What → Next TypeShape
type_after inner (plain kind.Bool) = goes (yield tree.bool)
type_after inner (plain kind.U8) = goes (yield tree.u8)
type_after inner (plain kind.U16) = goes (yield tree.u16)
type_after inner (plain kind.U32) = goes (yield tree.u32)
type_after inner (plain kind.U64) = goes (yield tree.u64)
type_after inner (plain kind.S8) = goes (yield tree.s8)
type_after inner (plain kind.S16) = goes (yield tree.s16)
type_after inner (plain kind.S32) = goes (yield tree.s32)
type_after inner (plain kind.S64) = goes (yield tree.s64)
type_after inner (plain kind.F32) = goes (yield tree.f32)
type_after inner (plain kind.F64) = goes (yield tree.f64)
type_after inner (plain kind.Char) = goes (yield tree.char)
type_after inner (plain kind.StringKeyword) = goes (yield tree.string)
type_after inner (plain kind.ListKeyword) = goes (list_after inner)
type_after inner (plain kind.OptionKeyword) = goes (option_after inner)
type_after inner (plain kind.Tuple) = goes (tuple_after inner)
type_after inner (plain kind.ResultKeyword) = goes (result_after inner)
type_after inner (plain kind.Own) = goes (handle_of >>= (λ n. yield (tree.own n)))
type_after inner (plain kind.Borrow) = goes (handle_of >>= (λ n. yield (tree.borrow n)))
type_after inner (plain kind.Future) = goes (future_after inner)
type_after inner (plain kind.Stream) = goes (stream_after inner)
type_after inner (plain kind.ErrorContext) = goes (yield tree.error_context)
type_after inner _ = none

-- ---- types

-- a type begins with the token
abbrev pub begins_type : What → Bool
begins_type (ident s) = true
begins_type (explicit s) = true
begins_type w = leads_on (type_after (refuse rules.Unexpected) w)

-- a token that begins a type stands too deep, and any other doesn't belong there
abbrev pub too_deep : What → Result TypeTree Rule
too_deep w = Err (if begins_type w then rules.TooDeep else rules.Unexpected)

-- a type by its name
unfoldable pub named_type : Production TypeShape
named_type = do
  n ← id
  yield (tree.named n)

-- what a type is whose parts are of the production inner
unfoldable pub shape_of : Production TypeTree → Production TypeShape
shape_of inner = by_or (type_after inner) named_type

-- a type in which fewer than this many angle brackets enclose another
unfoldable pub type_in : ℕ → Production TypeTree
type_in zero = one too_deep
type_in (suc depth) = do
  x ← located (shape_of (type_in depth))
  yield (tree.standing x.0 x.1)

-- a type, which stands in at most 100 angle brackets
unfoldable pub any_type : Production TypeTree
any_type = type_in 101

-- ---- whole texts

-- a type, and nothing behind it
unfoldable pub whole_type : Production TypeTree
whole_type = do
  t ← any_type
  finish t
