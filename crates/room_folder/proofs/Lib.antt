mod Lists
mod Chains
