-- What crates above name of those below.
pub use Rattle.wit_graph_parts.specs.Interfaces as wit_graph_parts-Interfaces
pub use Rattle.wit_graph_parts.specs.Own as wit_graph_parts-Own
pub use Rattle.wit_graph_parts.specs.Parts as wit_graph_parts-Parts
pub use Rattle.wit_graph_parts.specs.Passed.wit_graph_worlds-Added as wit_graph_worlds-Added
pub use Rattle.wit_graph_parts.specs.Passed.wit_graph_worlds-Copies as wit_graph_worlds-Copies
pub use Rattle.wit_graph_parts.specs.Passed.wit_graph_worlds-Names as wit_graph_worlds-Names
pub use Rattle.wit_graph_parts.specs.Passed.wit_graph_worlds-Worlds as wit_graph_worlds-Worlds
pub use Rattle.wit_graph_parts.specs.Passed.wit_graph_worlds-declared-worlds-WorldFault as wit_graph_worlds-declared-worlds-WorldFault
pub use Rattle.wit_graph_parts.specs.Passed.wit_graph_worlds-declared-worlds-WorldFault-TheVariants as wit_graph_worlds-declared-worlds-WorldFault-TheVariants
pub use Rattle.wit_graph_parts.specs.Passed.wit_joined-Joined as wit_joined-Joined
pub use Rattle.wit_graph_parts.specs.Passed.wit_placed-Naming as wit_placed-Naming
pub use Rattle.wit_graph_parts.specs.Passed.wit_placed-Order as wit_placed-Order
pub use Rattle.wit_graph_parts.specs.Passed.wit_placed-Worlds as wit_placed-Worlds
pub use Rattle.wit_graph_parts.specs.declared.fault.PushFault as wit_graph_parts-declared-fault-PushFault
pub use Rattle.wit_graph_parts.specs.declared.fault.PushFault.TheVariants as wit_graph_parts-declared-fault-PushFault-TheVariants
