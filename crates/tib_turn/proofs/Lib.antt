pub mod Lists
mod PrefixLemmas
mod Queues
mod Opening
mod Entering
mod Leaving
mod Sharing
