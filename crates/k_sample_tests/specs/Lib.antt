pub mod KSamples
