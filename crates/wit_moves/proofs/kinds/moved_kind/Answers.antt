use Rattle.wit_moves.specs.Moved as spec
use Rattle.wit_moves.proofs.kinds.moved_kind.Goals as goal

pub returns-in-Handle : goal.returns-in-Handle
returns-in-Handle g c = rw (c.in-Handle.is, c.moved_handle.ensures) (spec.moved_handle_kind c.in-Handle.handle)

pub returns-in-Option : goal.returns-in-Option
returns-in-Option g c = rw (c.in-Option.is, c.moved_type.ensures) (spec.moved_option c.in-Option.ty)

pub returns-in-List : goal.returns-in-List
returns-in-List g c = rw (c.in-List.is, c.moved_type-in-List.ensures) (spec.moved_list c.in-List.ty)

pub returns-in-FixedLengthList : goal.returns-in-FixedLengthList
returns-in-FixedLengthList g c = rw (c.in-FixedLengthList.is, c.moved_type-in-FixedLengthList.ensures) (spec.moved_fixed_length_list c.in-FixedLengthList.ty c.in-FixedLengthList.length)

pub returns-in-Alias : goal.returns-in-Alias
returns-in-Alias g c = rw (c.in-Alias.is, c.moved_type-in-Alias.ensures) (spec.moved_alias c.in-Alias.ty)

pub returns-in-Future : goal.returns-in-Future
returns-in-Future g c = rw (c.in-Future.is, c.moved_part.ensures) (spec.moved_future c.in-Future.part)

pub returns-in-Stream : goal.returns-in-Stream
returns-in-Stream g c = rw (c.in-Stream.is, c.moved_part-in-Stream.ensures) (spec.moved_stream c.in-Stream.part)

pub returns-in-Result : goal.returns-in-Result
returns-in-Result g c = rw (c.in-Result.is, c.moved_part-in-Result.ensures, c.moved_part-in-Result-2.ensures) (spec.moved_result c.in-Result.result)

pub returns-in-Flags : goal.returns-in-Flags
returns-in-Flags g c = rw c.in-Flags.is (spec.moved_flags c.in-Flags.flags)

pub returns-in-Enum : goal.returns-in-Enum
returns-in-Enum g c = rw c.in-Enum.is (spec.moved_enum c.in-Enum.labels)

pub returns-in-Resource : goal.returns-in-Resource
returns-in-Resource g c = rw c.in-Resource.is (spec.moved_resource)

pub returns-in-Unknown : goal.returns-in-Unknown
returns-in-Unknown g c = rw c.in-Unknown.is (spec.moved_unknown)
