mod After
mod Shown
