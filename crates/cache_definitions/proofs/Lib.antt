pub mod CacheLaws
pub mod CacheExamples
pub mod FlagLaws
