mod Taking
mod Coming
mod Moved
mod Refusing
mod Worlds
