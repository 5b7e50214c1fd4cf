mod Numbers
mod Reading
