mod Named
mod Pooled
