pub mod SequenceTests
