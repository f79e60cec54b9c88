mod Keeps
mod Places
mod Workers
mod Joined
mod Crossing
mod Lines
