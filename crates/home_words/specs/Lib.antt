pub mod HomeWords
