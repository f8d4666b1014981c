-- What crates above name of those below.
pub use Rattle.wit_graph_worlds.specs.Added as wit_graph_worlds-Added
pub use Rattle.wit_graph_worlds.specs.Copies as wit_graph_worlds-Copies
pub use Rattle.wit_graph_worlds.specs.Names as wit_graph_worlds-Names
pub use Rattle.wit_graph_worlds.specs.Passed.wit_uses-Uses as wit_uses-Uses
pub use Rattle.wit_graph_worlds.specs.Sound as wit_graph_worlds-Sound
pub use Rattle.wit_graph_worlds.specs.Worlds as wit_graph_worlds-Worlds
pub use Rattle.wit_labels.specs.Passed.wit_copies-Same as wit_copies-Same
pub use Rattle.wit_labels.specs.Passed.wit_plain_texts-Plain as wit_plain_texts-Plain
pub use Rattle.wit_labels.specs.Plain as wit_labels-Plain
