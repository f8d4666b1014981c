mod Pushing
mod Reading
mod Texts
