-- What crates above name of those below.
pub use Rattle.wit_resources.proofs.Agreeing as wit_resources-Agreeing
