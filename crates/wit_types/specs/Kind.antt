-- The words for what types are (WIT, Types).
use Rattle.std.specs.Prelude.{ℕ, List, codes}
use Rattle.wit_types.specs.declared.kind.Handle.{Handle}
use Rattle.wit_types.specs.declared.kind.Handle.TheVariants.{Own, Borrow}
use Rattle.wit_types.specs.declared.kind.TypeDefKind.{TypeDefKind}
use Rattle.wit_types.specs.declared.kind.TypeDefKind.TheVariants as kind

abbrev pub handle_word : Handle → List ℕ
handle_word (Own id) = codes "own"
handle_word (Borrow id) = codes "borrow"

-- the keyword that defines such a type, or what it is called that has none
abbrev pub kind_word : TypeDefKind → List ℕ
kind_word (kind.Record r) = codes "record"
kind_word kind.Resource = codes "resource"
kind_word (kind.Handle h) = handle_word h
kind_word (kind.Flags f) = codes "flags"
kind_word (kind.Tuple t) = codes "tuple"
kind_word (kind.Variant v) = codes "variant"
kind_word (kind.Enum e) = codes "enum"
kind_word (kind.Option t) = codes "option"
kind_word (kind.Result r) = codes "result"
kind_word (kind.List t) = codes "list"
kind_word (kind.FixedLengthList t n) = codes "fixed-length list"
kind_word (kind.Future t) = codes "future"
kind_word (kind.Stream t) = codes "stream"
kind_word (kind.Alias t) = codes "type"
kind_word kind.Unknown = codes "unknown"
