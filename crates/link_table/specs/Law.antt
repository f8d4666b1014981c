-- A module and a world have one link table at most, and where they have it, nothing forbids it.
use Rattle.std.specs.Prelude.{◌≡◌}
use Rattle.wit_reach.specs.Types.{AreTypesBackward}
use Rattle.link_table.specs.Cause.{IsTableCause}
use Rattle.link_table.specs.Linking.{Linking, types_of}
use Rattle.link_table.specs.Table.{Table, IsTable}
use Rattle.link_table.specs.declared.fault.TableFault.{TableFault}
use Rattle.link_table.specs.declared.fault.TableFault.TheVariants.{OutOfMemory}

-- over types that are made of earlier ones
pub record TablesAreOne : Type 0 where
  pub one : (l : Linking) (t u : Table) → AreTypesBackward (types_of l) → IsTable l t → IsTable l u → t ≡ u
  pub no_cause : (l : Linking) (t : Table) (fault : TableFault) → AreTypesBackward (types_of l) → IsTable l t → IsTableCause l fault → fault ≡ OutOfMemory
