mod Pairwise
mod Failing
