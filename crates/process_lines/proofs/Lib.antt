mod Cuts
mod Shorts
