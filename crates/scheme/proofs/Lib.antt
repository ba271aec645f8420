mod Lookups
