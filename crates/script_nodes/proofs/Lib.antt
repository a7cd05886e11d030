mod Places
mod Agree
mod Standing
mod Sources
